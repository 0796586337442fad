-- How a session is told from others across runs (IAudioSessionControl2::GetSessionIdentifier and
-- GetSessionInstanceIdentifier; the form is this project's own, of a GUID that of RFC 9562).
use Rattle.std.specs.Prelude.{ℕ, List, ◌++◌, codes, decimal}
use Rattle.std.specs.Int.{w128, to_be_bytes}
use Rattle.uuid.specs.Text.{hyphenated_text, lower}
use Rattle.session_manager.specs.declared.session.Session.{Session}

-- a GUID in hexadecimal digits, those above 9 in lower case
abbrev pub guid_text : ℕ → List ℕ
guid_text guid = hyphenated_text lower (to_be_bytes w128 guid)

-- its endpoint, its maker's name and its GUID
abbrev pub identifier_of : Session → List ℕ
identifier_of s =
    codes "endpoint-" ++ decimal s.key.endpoint.0 ++ codes "|" ++ s.key.name ++ codes "|" ++ guid_text s.key.guid.0

-- and its process
abbrev pub instance_of : Session → List ℕ
instance_of s = identifier_of s ++ codes "|" ++ decimal s.key.process
