-- What a device gave so far, read by read.
use Rattle.std.proofs.Common.{◌≡◌, ℕ, suc, ◌+◌, ◌-◌, ◌<◌, ◌≤◌, true, false}
use Rattle.std.proofs.Common.{List, [], ◌∷◌, ◌++◌, length, take, refl, sym, ap, subst, ◌∙◌, arith}
use Rattle.std.proofs.Common.{length-append, append-nil, append_assoc}
use Rattle.std.specs.Prelude.{Option, Some, None, IfSome, flat_map, Result, Ok, Err, is_ok}
use Rattle.std.specs.Option.{option_map}
use Rattle.ca_base.specs.Faults.{Rose}
use Rattle.ca_base.specs.declared.environment.Failed.{Failed}
use Rattle.device_io.specs.DeviceLog.{DeviceLog, left_at, take_left}
use Rattle.std.proofs.lemmas.List.{length-take-le}
use Rattle.std.proofs.Math.Seq.{take-append_seam}
use Rattle.period_engine.specs.Feeds.{AreGiven, GivesBytes, GivesFrom}

-- of the bytes that were asked for some came in pieces, none of them empty, and this many are left
abbrev pub Fills : ℕ → List (List ℕ) → ℕ → Type 0
Fills size [] rest = rest ≡ size
Fills size ([] ∷ pieces) rest = ⊥
Fills size ((byte ∷ piece) ∷ pieces) rest =
    (length (byte ∷ piece) ≤ size) × Fills (size - length (byte ∷ piece)) pieces rest

-- these bytes came
pub record Giving (number size : ℕ) (came : List ℕ) (told told' : Option (List DeviceLog)) : Type 0 where
  pub pieces : List (List ℕ)
  pub fills : Fills size pieces (size - length came)
  pub tells : GivesFrom number told pieces told'
  pub bytes_are : came ≡ flat_map (λ piece. piece) pieces

pub giving_none : (number size : ℕ) (told : Option (List DeviceLog)) → Giving number size [] told told
giving_none number size told = record { pieces = []; fills = omega arith; tells = refl; bytes_are = refl }

fills_push : (size : ℕ) (pieces : List (List ℕ)) (rest byte : ℕ) (piece : List ℕ) → Fills size pieces rest
    → length (byte ∷ piece) ≤ rest → Fills size (pieces ++ (byte ∷ piece) ∷ []) (rest - length (byte ∷ piece))
fills_push size [] rest byte piece h within = (omega (arith, h), ap (λ n. n - length (byte ∷ piece)) h)
fills_push size ([] ∷ pieces) rest byte piece h within = absurd h
fills_push size ((first ∷ others) ∷ pieces) rest byte piece h within =
    (h.0, fills_push (size - length (first ∷ others)) pieces rest byte piece h.1 within)

joined_push : (pieces : List (List ℕ)) (piece : List ℕ)
    → flat_map (λ p. p) (pieces ++ piece ∷ []) ≡ flat_map (λ p. p) pieces ++ piece
joined_push [] piece = append-nil piece
joined_push (first ∷ pieces) piece =
    ap (λ ps. first ++ ps) (joined_push pieces piece) ∙ sym (append_assoc first (flat_map (λ p. p) pieces) piece)

-- one read more
pub record GivesPiece (number : ℕ) (piece : List ℕ) (told told' : Option (List DeviceLog)) : Type 0 where
  pub front : IfSome told (λ logs. piece ≡ take (length piece) (left_at number logs))
  pub ends : IfSome told (λ logs. piece ≡ [] → left_at number logs ≡ [])
  pub tells : told' ≡ option_map (take_left number (length piece)) told

gives_push : (number : ℕ) (pieces : List (List ℕ)) (piece : List ℕ) (told mid told' : Option (List DeviceLog))
    → GivesFrom number told pieces mid → GivesPiece number piece mid told'
    → GivesFrom number told (pieces ++ piece ∷ []) told'
gives_push number [] piece told mid told' so_far one =
    let here : GivesPiece number piece told told' = subst (λ t. GivesPiece number piece t told') so_far one in
    (here.front, here.ends, here.tells)
gives_push number (first ∷ pieces) piece told mid told' so_far one = (
  so_far.0,
  so_far.1,
  gives_push number pieces piece (option_map (take_left number (length first)) told) mid told' so_far.2 one,
)

-- the front of what a read left in the buffer is a piece
pub one_piece : (number n : ℕ) (bytes : List ℕ) (told told' : Option (List DeviceLog)) → length (take n bytes) ≡ n
    → IfSome told (λ logs. take n bytes ≡ take n (left_at number logs))
    → (n ≡ 0 → IfSome told (λ logs. left_at number logs ≡ []))
    → told' ≡ option_map (take_left number n) told → GivesPiece number (take n bytes) told told'
one_piece number n bytes None told' size front ends tells = record { front = tt; ends = tt; tells = tells }
one_piece number n bytes (Some logs) told' size front ends tells = record {
  front = rw size front;
  ends = λ none. ends (sym size ∙ ap (λ xs. length xs) none);
  tells = rw size tells;
}

module _ {number size : ℕ} {came : List ℕ} {told told' : Option (List DeviceLog)}
    (so_far : Giving number size came told told') where
  giving_push : (byte : ℕ) (piece : List ℕ) (next : Option (List DeviceLog))
      → length (byte ∷ piece) ≤ size - length came → GivesPiece number (byte ∷ piece) told' next
      → Giving number size (came ++ byte ∷ piece) told next
  giving_push byte piece next within one =
      let left : size - length came - length (byte ∷ piece) ≡ size - length (came ++ byte ∷ piece) =
      omega (arith, length-append came (byte ∷ piece)) in
      record {
        pieces = so_far.pieces ++ (byte ∷ piece) ∷ [];
        fills = subst (Fills size (so_far.pieces ++ (byte ∷ piece) ∷ [])) left
            (fills_push size so_far.pieces (size - length came) byte piece so_far.fills within);
        tells = gives_push number so_far.pieces (byte ∷ piece) told told' next so_far.tells one;
        bytes_are = ap (λ xs. xs ++ byte ∷ piece) so_far.bytes_are
            ∙ sym (joined_push so_far.pieces (byte ∷ piece));
      }

  -- a read that gave some bytes
  pub giving_more : (piece : List ℕ) (next : Option (List DeviceLog)) → 0 < length piece
      → length piece ≤ size - length came → GivesPiece number piece told' next
      → Giving number size (came ++ piece) told next
  giving_more [] next some within one = absurd (omega arith)
  giving_more (byte ∷ piece) next some within one = giving_push byte piece next within one

are_all : (size : ℕ) (pieces : List (List ℕ)) (rest : ℕ) → Fills size pieces rest → rest ≡ 0
    → AreGiven size pieces true
are_all size [] rest h none = sym h ∙ none
are_all size ([] ∷ pieces) rest h none = absurd h
are_all size ((byte ∷ piece) ∷ pieces) rest h none =
    (h.0, are_all (size - length (byte ∷ piece)) pieces rest h.1 none)

are_cut : (size : ℕ) (pieces : List (List ℕ)) (rest : ℕ) → Fills size pieces rest → 0 < rest
    → AreGiven size pieces false
are_cut size [] rest h some = omega (arith, h)
are_cut size ([] ∷ pieces) rest h some = absurd h
are_cut size ((byte ∷ piece) ∷ pieces) rest h some =
    (h.0, are_cut (size - length (byte ∷ piece)) pieces rest h.1 some)

are_ended : (size : ℕ) (pieces : List (List ℕ)) (rest : ℕ) → Fills size pieces rest → 0 < rest
    → AreGiven size (pieces ++ [] ∷ []) true
are_ended size [] rest h some = (omega (arith, h), refl, refl)
are_ended size ([] ∷ pieces) rest h some = absurd h
are_ended size ((byte ∷ piece) ∷ pieces) rest h some =
    (h.0, are_ended (size - length (byte ∷ piece)) pieces rest h.1 some)

take_past : (front more : List ℕ) (n : ℕ) → take (length front + n) (front ++ more) ≡ front ++ take n more
take_past [] more n = let none : 0 + n ≡ n = omega arith in ap (λ k. take k more) none
take_past (x ∷ front) more n =
    let next : suc (length front) + n ≡ suc (length front + n) = omega arith in
    ap (λ k. take k (x ∷ front ++ more)) next ∙ ap (λ xs. x ∷ xs) (take_past front more n)

-- the bytes ahead of a place came, and a read was given the others
module _ {number size place : ℕ} {front : List ℕ} {told told' : Option (List DeviceLog)}
    (so_far : Giving number size front told told') (place_is : length front ≡ place) (buffer : List ℕ)
    (size_is : place + length buffer ≡ size)
  where
    -- it gave some
    pub read_more : (n : ℕ) (next : Option (List DeviceLog)) → 0 < n → n ≤ length buffer
        → IfSome told' (λ logs. take n buffer ≡ take n (left_at number logs))
        → (n ≡ 0 → IfSome told' (λ logs. left_at number logs ≡ []))
        → next ≡ option_map (take_left number n) told'
        → Giving number size (take (place + n) (front ++ buffer)) told next
    read_more n next some within gives ends tells =
        let long : length (take n buffer) ≡ n = length-take-le n buffer within in
        let joined : front ++ take n buffer ≡ take (place + n) (front ++ buffer) =
        sym (take_past front buffer n) ∙ ap (λ k. take (k + n) (front ++ buffer)) place_is in
        subst (λ came. Giving number size came told next) joined
        (giving_more so_far (take n buffer) next (omega (arith, long)) (omega (arith, long, place_is, size_is))
        (one_piece number n buffer told' next long gives ends tells))

    -- it gave none
    pub read_none : (faults faults' : ℕ) (next : Option (List DeviceLog)) (n : ℕ) → n ≡ 0 → 0 < length buffer
        → IfSome told' (λ logs. take n buffer ≡ take n (left_at number logs))
        → (n ≡ 0 → IfSome told' (λ logs. left_at number logs ≡ []))
        → next ≡ option_map (take_left number n) told' → faults' ≡ faults
        → GivesBytes number (Ok place) (front ++ buffer) faults told faults' next
    read_none faults faults' next n none some gives ends tells same =
        let all : length (front ++ buffer) ≡ size = length-append front buffer ∙ omega (arith, place_is, size_is) in
        let left : 0 < size - length front = omega (arith, place_is, size_is) in
        let empty : take n buffer ≡ [] = ap (λ k. take k buffer) none in
        let long : length (take n buffer) ≡ n = ap (λ xs. length xs) empty ∙ sym none in
        let piece = one_piece number n buffer told' next long gives ends tells in
        record {
          pieces = so_far.pieces ++ [] ∷ [];
          given = rw all (are_ended size so_far.pieces (size - length front) so_far.fills left);
          tells = gives_push number so_far.pieces [] told told' next so_far.tells
              (subst (λ xs. GivesPiece number xs told' next) empty piece);
          rises = same;
          within = omega (arith, all, size_is);
          front = ap (λ k. take k (front ++ buffer)) (sym place_is) ∙ take-append_seam front buffer
              ∙ so_far.bytes_are ∙ sym (append-nil (flat_map (λ p. p) so_far.pieces))
              ∙ sym (joined_push so_far.pieces []);
        }

    -- it failed
    pub read_failed : (result : Result ℕ Failed) (faults mid faults' : ℕ) (next : Option (List DeviceLog))
        → is_ok result ≡ false → 0 < length buffer → mid ≡ faults → Rose mid faults' → next ≡ told'
        → GivesBytes number result (front ++ buffer) faults told faults' next
    read_failed (Ok n) faults mid faults' next failed some same rose kept = absurd (cc)
    read_failed (Err e) faults mid faults' next failed some same rose kept =
        let all : length (front ++ buffer) ≡ size = length-append front buffer ∙ omega (arith, place_is, size_is) in
        let left : 0 < size - length front = omega (arith, place_is, size_is) in
        record {
          pieces = so_far.pieces;
          given = rw all (are_cut size so_far.pieces (size - length front) so_far.fills left);
          tells = subst (λ t. GivesFrom number told so_far.pieces t) (sym kept) so_far.tells;
          rises = subst (λ n. Rose n faults') same rose;
          within = tt;
          front = tt;
        }

-- all came
pub read_all : {number place : ℕ} {bytes : List ℕ} {told told' : Option (List DeviceLog)}
    → Giving number (length bytes) (take place bytes) told told' → (faults faults' : ℕ) → place ≤ length bytes
    → length bytes ≤ place → faults' ≡ faults → GivesBytes number (Ok place) bytes faults told faults' told'
read_all {number} {place} {bytes} so_far faults faults' within ends same = record {
  pieces = so_far.pieces;
  given = are_all (length bytes) so_far.pieces (length bytes - length (take place bytes)) so_far.fills
      (omega (arith, length-take-le place bytes within));
  tells = so_far.tells;
  rises = same;
  within = within;
  front = so_far.bytes_are;
}
