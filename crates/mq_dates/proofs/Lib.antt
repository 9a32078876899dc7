pub mod DateDays
