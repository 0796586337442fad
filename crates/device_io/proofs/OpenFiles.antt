-- What calls do to the open files of devices, from what they do to the files that are kept.
use Rattle.std.proofs.Common.{◌≡◌, ℕ, ◌<◌, List, [], ◌∷◌, ◌++◌, Option, Some, None, MatchOption, IfSome, IfNone, inr}
use Rattle.std.proofs.Common.{length, take, get_or, set, refl, sym, ap, subst, ◌∙◌, arith}
use Rattle.std.specs.List.{position, position_or_len}
use Rattle.std.proofs.lemmas.Grind.{common_steps}
use Rattle.std.proofs.lemmas.Bool.Decides.{nat_tests}
use Rattle.std.proofs.lemmas.List.{map-append, map-set, length-append, get_or-map}
use Rattle.std.proofs.lemmas.List.Elements.{All-get_or}
use Rattle.std.proofs.lemmas.List.Folds.{position_or_len_push}
use Rattle.std.proofs.lemmas.List.Sums.{passes_at_first}
use Rattle.std.proofs.Math.Seq.{set-append_seam}
use Rattle.device_io.specs.declared.kept.KeptFile.{KeptFile}
use Rattle.std.specs.Io.KnownBytes.{Keeps, Consumes, IsAtEnd}
use Rattle.std.specs.declared.fs.options.OpenOptions.{OpenOptions}
use Rattle.device_io.specs.Files.{OpenFile, Files, Moves, GivesFront, IsFileOf, MovesAt, StaysAt, name_in, is_open_for}
use Rattle.device_io.specs.KeptFiles.{open_file, open_files, is_kept_for, OpensFor, IsOpened, AreOpened}

-- the kept files once an endpoint has one, by the place at which it had one before
abbrev OpenedAs : {F : Type 0} → ℕ → List (KeptFile F) → List (KeptFile F) → Option ℕ → Type 0
OpenedAs {F} e old new at = MatchOption at
    ((kept : KeptFile F) × (kept.endpoint.0 ≡ e) × (new ≡ old ++ kept ∷ []))
    (λ _. new ≡ old)

-- seen as open files, the kept ones are found at the same place
place-open_files : {F : Type 0} (bytes : F → Option (List ℕ)) (e : ℕ) (files : List (KeptFile F))
    → position (is_open_for e) (open_files bytes files) ≡ position (is_kept_for e) files
place-open_files bytes e [] = refl
place-open_files bytes e (kept ∷ files) = grind (arith, nat_tests, common_steps, place-open_files bytes e files)

pub found_within : {F : Type 0} (e i : ℕ) (files : List (KeptFile F)) → Some i ≡ position (is_kept_for e) files
    → (position_or_len (is_kept_for e) files ≡ i) × (i < length files)
found_within e i files h = grind (arith, nat_tests)

-- none of the files is the endpoint's: its place is behind them all
nowhere : {F : Type 0} (e : ℕ) (files : List (KeptFile F)) → None ≡ position (is_kept_for e) files
    → position_or_len (is_kept_for e) files ≡ length files
nowhere e [] h = refl
nowhere e (kept ∷ files) h = grind (arith, nat_tests, common_steps, nowhere e files)

-- a new file behind others that aren't the endpoint's is the first of that endpoint
pub found_new : {F : Type 0} (e : ℕ) (files : List (KeptFile F)) (kept : KeptFile F)
    → None ≡ position (is_kept_for e) files → kept.endpoint.0 ≡ e
    → Some (length files) ≡ position (is_kept_for e) (files ++ kept ∷ [])
found_new e files kept h is =
    let pushed = position_or_len_push (is_kept_for e) files kept in
    let none = nowhere e files h in
    grind (arith, nat_tests, common_steps, pushed, none, length-append files (kept ∷ []))

found_is_for : {F : Type 0} (e i : ℕ) (files : List (KeptFile F)) (d : KeptFile F)
    → Some i ≡ position (is_kept_for e) files → (get_or files i d).endpoint.0 ≡ e
found_is_for e i files d h =
    let at = found_within e i files h in
    let inside : position_or_len (is_kept_for e) files < length files = omega arith in
    let passes = passes_at_first (is_kept_for e) files d inside in
    grind (arith, nat_tests, passes, at.0)

-- a file was opened for an endpoint that had none, or its memory ran out
pub opens_new : {F : Type 0} (e : ℕ) (old new : List (KeptFile F)) (kept : KeptFile F) (r : Option ℕ)
    → None ≡ position (is_kept_for e) old → kept.endpoint.0 ≡ e
    → IfSome r (λ i. new ≡ old ++ kept ∷ []) → IfSome r (λ i. OpensFor e old new)
opens_new e old new kept None none is last = tt
opens_new {F} e old new kept (Some i) none is last =
    let P : Option ℕ → Type 0 = λ at. OpenedAs e old new at in
    subst P none (kept, is, last)

-- the open files with one of them in its new state, by the place at which it was before
abbrev MovedAs : {F : Type 0} → (F → Option (List ℕ)) → Moves → List (KeptFile F) → List (KeptFile F) → KeptFile F
    → Option ℕ → Type 0
MovedAs {F} bytes moves old new kept at = MatchOption at
    ((open_files bytes new ≡ open_files bytes old ++ open_file bytes kept ∷ [])
    × (opened : F) × moves (bytes opened) (bytes kept.file))
    (λ j. (open_files bytes new ≡ set (open_files bytes old) j (open_file bytes kept))
    × moves (get_or (open_files bytes old) j (open_file bytes kept)).bytes (bytes kept.file))

moved_as : {F : Type 0} (bytes : F → Option (List ℕ)) (moves : Moves) (e i : ℕ) (old mid : List (KeptFile F))
    (new d : KeptFile F) (at : Option ℕ) → at ≡ position (is_kept_for e) old → OpenedAs e old mid at
    → Some i ≡ position (is_kept_for e) mid → moves (bytes (get_or mid i d).file) (bytes new.file)
    → MovedAs bytes moves old (set mid i new) new at
moved_as {F} bytes moves e i old mid new d None none (kept, is, last) h it =
    let there = subst (λ (files : List (KeptFile F)). Some i ≡ position (is_kept_for e) files) last h in
    let found = found_new e old kept none is in
    let i_is : i ≡ length old = cc in
    let files_are = ap (λ (files : List (KeptFile F)). open_files bytes (set files i new)) last
    ∙ ap (λ (k : ℕ). open_files bytes (set (old ++ kept ∷ []) k new)) i_is
    ∙ ap (open_files bytes) (set-append_seam old kept [] new)
    ∙ map-append (open_file bytes) old (new ∷ []) in
    (files_are, (get_or mid i d).file, it)
moved_as {F} bytes moves e i old mid new d (Some j) found same h it =
    let there = subst (λ (files : List (KeptFile F)). Some i ≡ position (is_kept_for e) files) same h in
    let i_is : i ≡ j = cc in
    let at = get_or-map (open_file bytes) old j d (open_file bytes new) (found_within e j old found).1 in
    let before = ap (λ (files : List (KeptFile F)). bytes (get_or files i d).file) same
    ∙ ap (λ (k : ℕ). bytes (get_or old k d).file) i_is ∙ ap (λ (file : OpenFile). file.bytes) (sym at) in
    let is = ap (λ (files : List (KeptFile F)). open_files bytes (set files i new)) same
    ∙ ap (λ (k : ℕ). open_files bytes (set old k new)) i_is ∙ map-set (open_file bytes) old j new in
    (is, subst (λ (known : Option (List ℕ)). moves known (bytes new.file)) before it)

-- what is said of kept files by a folder and options, is said of them by equal ones
pub opened_alike : {F : Type 0} {folder folder' : List ℕ} {how how' : OpenOptions} → folder ≡ folder' → how ≡ how'
    → (files : List (KeptFile F)) → AreOpened folder how files → AreOpened folder' how' files
opened_alike {F} {folder} {folder'} {how} {how'} same_folder same_how files opened =
    subst (λ (f : List ℕ). AreOpened f how' files) same_folder
    (subst (λ (h : OpenOptions). AreOpened folder h files) same_how opened)

-- the kept file of an endpoint is its file, whatever became of its bytes
is_file_of : {F : Type 0} (bytes : F → Option (List ℕ)) (folder : List ℕ) (how : OpenOptions) (e i : ℕ)
    (files : List (KeptFile F)) (was : KeptFile F) (file : F) → AreOpened folder how files
    → Some i ≡ position (is_kept_for e) files → was ≡ get_or files i was
    → IsFileOf folder how e (open_file bytes (record was { file = file }))
is_file_of {F} bytes folder how e i files was file opened found at =
    let inside = (found_within e i files found).1 in
    let it = subst (λ (kept : KeptFile F). IsOpened folder how kept) (sym at)
    (All-get_or (IsOpened folder how) files i was inside opened) in
    let is = ap (λ (kept : KeptFile F). kept.endpoint.0) at ∙ found_is_for e i files was found in
    record { endpoint = is; name = it.name ∙ ap (name_in folder) is; options = it.options }

-- an endpoint's file was opened, if it wasn't, and its bytes then moved
moved : {F : Type 0} (bytes : F → Option (List ℕ)) (is_meant : Files) (moves : Moves) (e i : ℕ)
    (old mid : List (KeptFile F)) (was : KeptFile F) (file : F) (before : List OpenFile)
    → open_files bytes old ≡ before → OpensFor e old mid → Some i ≡ position (is_kept_for e) mid
    → was ≡ get_or mid i was → is_meant e (open_file bytes (record was { file = file }))
    → moves (bytes was.file) (bytes file)
    → MovesAt bytes is_meant moves e before (open_files bytes (set mid i (record was { file = file })))
moved {F} bytes is_meant moves e i old mid was file before seen opens h at is it =
    let now : KeptFile F = record was { file = file } in
    let it' = subst (λ (kept : KeptFile F). moves (bytes kept.file) (bytes now.file)) at it in
    let ends : MovesAt bytes is_meant moves e (open_files bytes old) (open_files bytes (set mid i now)) = record {
      file = open_file bytes now;
      is = is;
      files = rw place-open_files
          (moved_as bytes moves e i old mid now was (position (is_kept_for e) old) refl opens h it');
    } in
    subst (λ (files : List OpenFile). MovesAt bytes is_meant moves e files (open_files bytes (set mid i now))) seen ends

-- a read that gave bytes, and none only at the end, gave the front of what was left
pub gives_front : (old new : Option (List ℕ)) (buf : List ℕ) (r : Option ℕ)
    → IfSome r (λ n. Consumes old new (take n buf)) → IfSome r (λ n. n ≡ 0 → IsAtEnd new)
    → IfSome r (λ n. GivesFront n buf old new)
gives_front old new buf None gives end = tt
gives_front old new buf (Some n) gives end = (gives, end)

-- a call on an endpoint's file, once it was open, moved bytes and answered how many, or failed
pub call_ends : {F : Type 0} (bytes : F → Option (List ℕ)) (folder : List ℕ) (how : OpenOptions) (moves : ℕ → Moves)
    (e i : ℕ) (old mid : List (KeptFile F)) (was : KeptFile F) (file : F) (before : List OpenFile) (r : Option ℕ)
    → open_files bytes old ≡ before → AreOpened folder how mid → OpensFor e old mid
    → Some i ≡ position (is_kept_for e) mid → was ≡ get_or mid i was
    → IfSome r (λ n. moves n (bytes was.file) (bytes file)) → IfNone r (Keeps (bytes was.file) (bytes file))
    → MatchOption r
    (StaysAt bytes (IsFileOf folder how) e before (open_files bytes (set mid i (record was { file = file }))))
    (λ n. MovesAt bytes (IsFileOf folder how) (moves n) e before
    (open_files bytes (set mid i (record was { file = file }))))
call_ends bytes folder how moves e i old mid was file before None seen opened opens h at some none =
    let is = is_file_of bytes folder how e i mid was file opened h at in
    inr (moved bytes (IsFileOf folder how) Keeps e i old mid was file before seen opens h at is none)
call_ends bytes folder how moves e i old mid was file before (Some n) seen opened opens h at some none =
    let is = is_file_of bytes folder how e i mid was file opened h at in
    moved bytes (IsFileOf folder how) (moves n) e i old mid was file before seen opens h at is some
