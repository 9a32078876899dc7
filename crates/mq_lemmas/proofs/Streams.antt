-- Of a stream that is as it was: nothing was read of it or written to it.
use Rattle.std.proofs.Common.{ℕ, List, [], sym, ◌∙◌, append-nil}
use Rattle.std.specs.Prelude.{Option, Some, None}
use Rattle.std.specs.Io.KnownBytes.{Appends, Consumes, Keeps}

pub appends_kept : (a b : Option (List ℕ)) → Keeps a b → Appends a b []
appends_kept None b h = tt
appends_kept (Some x) None h = absurd h
appends_kept (Some x) (Some y) h = h ∙ sym (append-nil x)

pub consumes_kept : (a b : Option (List ℕ)) → Keeps a b → Consumes a b []
consumes_kept None b h = tt
consumes_kept (Some x) None h = absurd h
consumes_kept (Some x) (Some y) h = sym h
