use Rattle.std.proofs.Common.{arith, subst, take, ◌∙◌, ◌≡◌}
use Rattle.mq_store.proofs.Words.{over_memory, state}
use Rattle.mq_store.specs.Taking.{HasBook, book_of}
use Rattle.mq_store.proofs.carry.step_apart.Goals as goal

pub returns-clause-renews : goal.returns-clause-renews
returns-clause-renews g c clean clean_into = λ H has judged carried.
    let t = c.args.terms.now in
    let there : c.args.at.followed ≡ c.args.at.place = omega (arith, c.args.at.before, c.if-followed-place.false) in
    let before = (state over_memory c.args.scratch.now.conn.now).now in
    let front = subst (λ n. HasBook (book_of t.zone t.default (take n H)) before) there carried.followed in
    let set = c.in_ok-is_staying.ensures.set H c.args.at.place judged.reply has.legal judged.at front in
    record {
      within = omega (arith, judged.at.within);
      carried = c.in_ok-carry_one.ensures.carried clean_into H c.args.at.place judged.reply has.legal judged.at (judged.told ∙ set.0) carried.carried;
      followed = set.1;
    }
