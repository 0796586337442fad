-- A notice as bytes (this project's own).
use Rattle.std.specs.Prelude.{ℕ, List, [], ◌∷◌, ◌++◌, length}
use Rattle.std.specs.Int.{w16, w64, w128, to_le_bytes, to_be_bytes}
use Rattle.event_notices.specs.declared.notice.Notice.{Notice}

-- its kind, its subject, its context as the bytes of a GUID, its value, and two bytes of length with its text
abbrev pub notice_bytes : Notice → List ℕ
notice_bytes n =
    n.kind ∷ [] ++ to_le_bytes w64 n.subject ++ to_be_bytes w128 n.context.0 ++ to_le_bytes w64 n.value
    ++ to_le_bytes w16 (length n.text) ++ n.text
