-- Devices over files: the names of the files, and the files that are open. This project's own.
use Rattle.std.specs.Prelude.{◌≡◌, ℕ, ◌==◌, Bool, true, List, [], ◌∷◌, ◌++◌, codes, take, Option, MatchOption, ◌⊎◌}
use Rattle.std.specs.List.{position, slice_set, slice_index_or}
use Rattle.std.specs.Fmt.{decimal}
use Rattle.std.specs.Fs.{new_options, with_append, with_create, with_read}
use Rattle.std.specs.Io.KnownBytes.{Keeps, Appends, Consumes, IsAtEnd}
use Rattle.std.specs.declared.fs.options.OpenOptions.{OpenOptions}

-- FOLDER/endpoint-N.pcm
abbrev pub name_in : List ℕ → ℕ → List ℕ
name_in folder e = folder ++ (codes "/endpoint-" ++ (decimal e ++ codes ".pcm"))

-- how a file is opened that is appended to: it is made if it is missing
abbrev pub to_append : OpenOptions
to_append = with_create (with_append new_options true) true

-- how a file is opened that is read
abbrev pub to_read : OpenOptions
to_read = with_read new_options true

-- a file that was opened for an endpoint, under a name and by options, with its bytes, if they are specified
pub record OpenFile : Type 0 where
  pub endpoint : ℕ
  pub name : List ℕ
  pub options : OpenOptions
  pub bytes : Option (List ℕ)

-- the folder, the files that are appended to with what they hold, the files that are read with what they have left, and
-- how many calls have failed
pub record FilesState : Type 0 where
  pub folder : List ℕ
  pub appended : List OpenFile
  pub read : List OpenFile
  pub faults : ℕ

-- devices over a folder of which no file is open
abbrev pub new_files : List ℕ → FilesState
new_files folder = record { folder = folder; appended = []; read = []; faults = 0 }

-- whether a file is open for an endpoint
abbrev pub is_open_for : ℕ → OpenFile → Bool
is_open_for e file = e == file.endpoint

-- how a call moves the bytes of a file: from those before it to those after it
abbrev pub Moves : Type 1
Moves = Option (List ℕ) → Option (List ℕ) → Type 0

-- what a file that is appended to holds grew by a piece
abbrev pub AppendsPiece : List ℕ → Moves
AppendsPiece piece old new = Appends old new piece

-- what a file that is read has left lost the first n bytes of a buffer, and n is 0 only at its end
abbrev pub GivesFront : ℕ → List ℕ → Moves
GivesFront n buf old new = Consumes old new (take n buf) × (n ≡ 0 → IsAtEnd new)

-- whether a file is the one of an endpoint in a folder, opened by these options
pub record IsFileOf (folder : List ℕ) (how : OpenOptions) (e : ℕ) (file : OpenFile) : Type 0 where
  pub endpoint : file.endpoint ≡ e
  pub name : file.name ≡ name_in folder e
  pub options : file.options ≡ how

-- which file of an endpoint is meant
abbrev pub Files : Type 1
Files = ℕ → OpenFile → Type 0

-- in a folder, the files that are appended to
abbrev pub AppendedIn : List ℕ → Files
AppendedIn folder = IsFileOf folder to_append

-- in a folder, the files that are read
abbrev pub ReadIn : List ℕ → Files
ReadIn folder = IsFileOf folder to_read

-- the open files after a call that moved the bytes of an endpoint's file: the first one of that endpoint, or, if it had
-- none, a new one at the end, whose bytes moved from those that it had when it was opened
pub record MovesAt {F : Type 0} (bytes : F → Option (List ℕ)) (is_meant : Files) (moves : Moves) (e : ℕ)
    (old new : List OpenFile) : Type 0 where
  pub file : OpenFile
  pub is : is_meant e file
  pub files : MatchOption (position (is_open_for e) old)
      ((new ≡ old ++ file ∷ []) × (opened : F) × moves (bytes opened) file.bytes)
      (λ i. (new ≡ slice_set old i file) × moves (slice_index_or old i file).bytes file.bytes)

-- the open files after a call that failed: an endpoint's file may have been opened in it
abbrev pub StaysAt : {F : Type 0} → (F → Option (List ℕ)) → Files → ℕ → List OpenFile → List OpenFile → Type 0
StaysAt bytes is_meant e old new = (new ≡ old) ⊎ MovesAt bytes is_meant Keeps e old new
