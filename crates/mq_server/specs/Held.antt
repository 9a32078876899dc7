-- What a connection holds between two calls.
use Rattle.std.specs.Prelude.{◌≡◌, ℕ, List, [], ◌++◌, Bool, false, Option, None, Result}
use Rattle.mq_server.specs.declared.connection.EndCause.{EndCause}
use Rattle.mq_server.specs.declared.fault.ServeFault.{ServeFault}

-- a connection: the bytes that came and weren't answered yet, how many frames were answered, the replies that weren't
-- taken yet, whether its input has ended, how it ended, where it did, and for how many bytes in all, those that wait
-- included, it has room
pub record State : Type 0 where
  pub rest : List ℕ
  pub answered : ℕ
  pub replies : List ℕ
  pub is_closed : Bool
  pub end : Option (Result EndCause ServeFault)
  pub room : ℕ

-- all that came was answered, and all replies were taken; it hasn't ended
pub record IsAtRest (c : State) : Type 0 where
  pub going : c.end ≡ None
  pub answered : c.rest ≡ []
  pub taken : c.replies ≡ []

-- one on which nothing came yet, with so much room
abbrev pub fresh : ℕ → State
fresh room = record { rest = []; answered = 0; replies = []; is_closed = false; end = None; room = room }

-- it has so much room
abbrev pub with_room : State → ℕ → State
with_room c room = record {
  rest = c.rest;
  answered = c.answered;
  replies = c.replies;
  is_closed = c.is_closed;
  end = c.end;
  room = room;
}

-- more bytes came, and it has so much room then
abbrev pub received : State → List ℕ → ℕ → State
received c piece room = record {
  rest = c.rest ++ piece;
  answered = c.answered;
  replies = c.replies;
  is_closed = c.is_closed;
  end = c.end;
  room = room;
}

-- other replies wait
abbrev pub with_replies : State → List ℕ → State
with_replies c replies = record {
  rest = c.rest;
  answered = c.answered;
  replies = replies;
  is_closed = c.is_closed;
  end = c.end;
  room = c.room;
}

-- its input has or hasn't ended
abbrev pub with_closed : State → Bool → State
with_closed c closed = record {
  rest = c.rest;
  answered = c.answered;
  replies = c.replies;
  is_closed = closed;
  end = c.end;
  room = c.room;
}
