-- How devices over files keep their open files. This project's own.
use Rattle.std.specs.Prelude.{◌≡◌, ℕ, ◌==◌, Bool, List, [], ◌∷◌, ◌++◌, map, Option, MatchOption, string_bytes}
use Rattle.std.specs.List.{All, position}
use Rattle.std.specs.declared.fs.options.OpenOptions.{OpenOptions}
use Rattle.device_io.specs.Files.{OpenFile, name_in, to_append, to_read}
use Rattle.device_io.specs.declared.kept.KeptFile.{KeptFile}

-- an open file that is kept, with what is known of its bytes
abbrev pub open_file : {F : Type 0} → (F → Option (List ℕ)) → KeptFile F → OpenFile
open_file bytes kept = record {
  endpoint = kept.endpoint.0;
  name = string_bytes kept.name;
  options = kept.options;
  bytes = bytes kept.file;
}

-- the open files that are kept
abbrev pub open_files : {F : Type 0} → (F → Option (List ℕ)) → List (KeptFile F) → List OpenFile
open_files bytes files = map (open_file bytes) files

-- whether a file is kept for an endpoint
abbrev pub is_kept_for : {F : Type 0} → ℕ → KeptFile F → Bool
is_kept_for e kept = e == kept.endpoint.0

-- the kept files once an endpoint has one: as they were if it had one before, and else with a new one at the end
abbrev pub OpensFor : {F : Type 0} → ℕ → List (KeptFile F) → List (KeptFile F) → Type 0
OpensFor {F} e old new = MatchOption (position (is_kept_for e) old)
    ((kept : KeptFile F) × (kept.endpoint.0 ≡ e) × (new ≡ old ++ kept ∷ []))
    (λ _. new ≡ old)

-- whether a kept file was opened under the name of its endpoint's file in a folder, by these options
pub record IsOpened {F : Type 0} (folder : List ℕ) (how : OpenOptions) (kept : KeptFile F) : Type 0 where
  pub name : string_bytes kept.name ≡ name_in folder kept.endpoint.0
  pub options : kept.options ≡ how

-- whether each of the kept files was opened so
abbrev pub AreOpened : {F : Type 0} → List ℕ → OpenOptions → List (KeptFile F) → Type 0
AreOpened folder how files = All (IsOpened folder how) files

-- what holds of the kept files of devices over a folder
pub record Keeping {F : Type 0} (folder : List ℕ) (appended read : List (KeptFile F)) : Type 0 where
  pub appending : AreOpened folder to_append appended
  pub reading : AreOpened folder to_read read
