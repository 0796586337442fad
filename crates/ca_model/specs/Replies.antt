-- The spelling of replies (this project's own wire form; numbers are little-endian).
use Rattle.std.specs.Prelude.{◌≡◌, ℕ, ◌+◌, ◌≤◌, List, ◌∷◌, ◌++◌, length}
use Rattle.std.specs.List.{flat_map}
use Rattle.std.specs.Int.{w32, to_le_bytes}
use Rattle.ca_model.specs.declared.reply.Reply.{Reply}
use Rattle.ca_base.specs.declared.limits.TheConstants.{LONGEST_BODY}

-- kind, connection, tag, result, payload
abbrev pub reply_body : Reply → List ℕ
reply_body r = r.kind ∷ r.conn ∷ to_le_bytes w32 r.tag ++ to_le_bytes w32 r.result.0 ++ r.payload.list

-- the length of the body, and the body
abbrev pub reply_frame : Reply → List ℕ
reply_frame r = to_le_bytes w32 (10 + length r.payload.list) ++ reply_body r

abbrev pub reply_frames : List Reply → List ℕ
reply_frames rs = flat_map reply_frame rs

-- the body fits in a frame
abbrev pub FitsFrame : Reply → Type 0
FitsFrame r = 10 + length r.payload.list ≤ LONGEST_BODY

-- the same reply, but for the memory that its payload has taken
pub record IsSameReply (old new : Reply) : Type 0 where
  pub kind : new.kind ≡ old.kind
  pub connection : new.conn ≡ old.conn
  pub tag : new.tag ≡ old.tag
  pub result : new.result ≡ old.result
  pub payload : new.payload.list ≡ old.payload.list
