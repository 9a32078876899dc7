use Rattle.std.proofs.Common.{List, ap, filter_map, map, ◌∙◌, ◌≡◌}
use Rattle.mq_store.proofs.Words.{AnswerRecord, Request, build, day_of, request_at}
use Rattle.mq_rows.specs.Meaning.{meaning, requests_in}
use Rattle.mq_store.specs.Soundness.{book_in}
use Rattle.mq_store.proofs.Sound.{bodies_are, spelled_by}
use Rattle.mq_store.proofs.laws.tables_mean_their_book.Goals as goal

pub returns : goal.returns
returns c = λ b t db legal holds rows.
    let same : filter_map request_at (map (λ (a : AnswerRecord). a.request) t.answers) ≡ requests_in t.answers = spelled_by t.answers in
    let asked = ap (filter_map request_at) (bodies_are db t holds) ∙ same in
    let read : book_in b.zone b.default db ≡ meaning b.zone b.default t.answers =
    ap (λ (rs : List Request). record { zone = b.zone; default = b.default; history = build (day_of b.zone) b.default rs }) asked in
    read ∙ c.rows_mean_their_history.ensures.meaning b t legal rows
