use Rattle.std.proofs.Common.{◌≡◌, ℕ, List, [], refl, ◌∙◌, ap, sym, subst, arith, None, Some}
use Rattle.mq_rows.proofs.Words.{AreRows, Book, IsLegalBook, IsRequest, Request, SettingRecord, Tables, build, day_of, floor, request_at, request_body, requests, retired_row, those}
use Rattle.mq_rows.specs.Meaning.{requests_in, meaning, AreSound}
use Rattle.mq_rows.proofs.Numbered.{spelled_requests}
use Rattle.mq_rows.proofs.laws.rows_mean_their_history.Goals as goal

means : (read : (r : Request) → IsRequest r → request_at (request_body r) ≡ Some r) → (b : Book) (t : Tables) → IsLegalBook b → AreRows b t → meaning b.zone b.default t.answers ≡ b
means read b t legal rows =
    let day : ℕ → ℕ = day_of b.zone in
    let asked : requests_in t.answers ≡ requests b.history = ap requests_in rows.answers ∙ spelled_requests read b.history 1 b.history legal.legal.range in
    let H : build day b.default (requests_in t.answers) ≡ b.history = ap (build day b.default) asked ∙ sym legal.legal.built in
    λ i. record { zone = b.zone; default = b.default; history = H i }

sound : (read : (r : Request) → IsRequest r → request_at (request_body r) ≡ Some r) → (b : Book) (t : Tables) → IsLegalBook b → AreRows b t → AreSound b.zone b.default t
sound read b t legal rows =
    let e = sym (means read b t legal rows) in
    record { legal = subst IsLegalBook e legal; rows = subst (λ (x : Book). AreRows x t) e rows }

no_floor : (h : List ℕ) → floor [] h ≡ 0 → retired_row [] h ≡ None
no_floor h none = rw none refl

pub returns-clause-meaning : goal.returns-clause-meaning
returns-clause-meaning c = means (λ r h. c.bodies_are_read_back.ensures.spelled_request (request_body r) r (c.one_spelling.ensures.request r h))

pub returns-clause-sound : goal.returns-clause-sound
returns-clause-sound c = sound (λ r h. c.bodies_are_read_back.ensures.spelled_request (request_body r) r (c.one_spelling.ensures.request r h))

pub returns-clause-new : goal.returns-clause-new
returns-clause-new c = λ zone default offset amount. record {
  legal = record { zone = offset; default = amount; legal = record { range = λ k d h. absurd (omega arith); distinct = refl; built = refl } };
  rows = record {
    setting = record { row = refl; version = refl };
    answers = refl;
    transactions = λ t. refl;
    usage = λ l d. refl;
    limits = λ l d. refl;
    retired = λ h. sym (ap those (no_floor h (c.one_more_floor.ensures.none h)));
  };
}

pub returns-clause-version : goal.returns-clause-version
returns-clause-version c = λ b t version rows so. record {
  setting = record { row = ap (λ (s : SettingRecord). record s { version = version }) rows.setting.row; version = so };
  answers = rows.answers;
  transactions = rows.transactions;
  usage = rows.usage;
  limits = rows.limits;
  retired = rows.retired;
}
