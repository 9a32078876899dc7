mod PieceLaws
mod AuthLaws
mod TimeLaws
mod SearchLaws
pub mod TextLaws
mod FeedLaws
mod ResultLaws
mod GrammarLaws
