-- What a device did so far that takes its bytes piece by piece.
use Rattle.std.proofs.Common.{
  ◌≡◌,
  ℕ,
  ◌<◌,
  ◌≤◌,
  true,
  false,
  List,
  [],
  ◌∷◌,
  ◌++◌,
  length,
  take,
  drop,
  Option,
  Some,
  None,
  refl,
  sym,
  ap,
  ◌∙◌,
  subst,
  length-drop,
}
use Rattle.std.specs.Option.{option_map}
use Rattle.ca_base.specs.Faults.{Rose}
use Rattle.device_io.specs.DeviceLog.{DeviceLog, add_written, add_all}
use Rattle.period_engine.specs.Offers.{AreTaken, pieces_taken, Offers}

-- of these bytes pieces of these sizes were taken, and the rest is left
abbrev pub Leaves : List ℕ → List ℕ → List ℕ → Type 0
Leaves bytes [] rest = rest ≡ bytes
Leaves bytes (n ∷ counts) rest = (0 < n) × (n ≤ length bytes) × Leaves (drop n bytes) counts rest

-- a device took some pieces, and this is left
pub record Taking (e : ℕ) (bytes rest : List ℕ) (told told' : Option (List DeviceLog)) : Type 0 where
  pub counts : List ℕ
  pub leaves : Leaves bytes counts rest
  pub tells : told' ≡ option_map (add_all (pieces_taken e bytes counts)) told

pub taking_none : (e : ℕ) (bytes : List ℕ) (told : Option (List DeviceLog)) → Taking e bytes bytes told told
taking_none e bytes None = record { counts = []; leaves = refl; tells = refl }
taking_none e bytes (Some held) = record { counts = []; leaves = refl; tells = refl }

leaves_push : (bytes counts rest : List ℕ) (n : ℕ) → Leaves bytes counts rest → 0 < n → n ≤ length rest
    → Leaves bytes (counts ++ n ∷ []) (drop n rest)
leaves_push bytes [] rest n h some within = (some, subst (λ (xs : List ℕ). n ≤ length xs) h within, ap (drop n) h)
leaves_push bytes (k ∷ counts) rest n h some within =
    (h.0, h.1, leaves_push (drop k bytes) counts rest n h.2 some within)

pieces_taken-push : (e : ℕ) (bytes counts rest : List ℕ) (n : ℕ) → Leaves bytes counts rest
    → pieces_taken e bytes (counts ++ n ∷ []) ≡ pieces_taken e bytes counts ++ (e, take n rest) ∷ []
pieces_taken-push e bytes [] rest n h = ap (λ (xs : List ℕ). (e, take n xs) ∷ []) (sym h)
pieces_taken-push e bytes (k ∷ counts) rest n h =
    ap (λ (ws : List (ℕ × List ℕ)). (e, take k bytes) ∷ ws) (pieces_taken-push e (drop k bytes) counts rest n h.2)

add_all-push : (ws : List (ℕ × List ℕ)) (e : ℕ) (piece : List ℕ) (held : List DeviceLog)
    → add_all (ws ++ (e, piece) ∷ []) held ≡ add_written e piece (add_all ws held)
add_all-push [] e piece held = refl
add_all-push (w ∷ ws) e piece held = add_all-push ws e piece (add_written w.0 w.1 held)

tells_push : (ws : List (ℕ × List ℕ)) (e : ℕ) (piece : List ℕ) (told : Option (List DeviceLog))
    → option_map (add_written e piece) (option_map (add_all ws) told)
    ≡ option_map (add_all (ws ++ (e, piece) ∷ [])) told
tells_push ws e piece None = refl
tells_push ws e piece (Some held) = ap (λ (hs : List DeviceLog). Some hs) (sym (add_all-push ws e piece held))

module _ {e : ℕ} {bytes rest : List ℕ} {told told' : Option (List DeviceLog)}
    (so_far : Taking e bytes rest told told') where
  -- one piece more
  pub taking_more : (n : ℕ) (after : List ℕ) (next : Option (List DeviceLog)) → 0 < n → n ≤ length rest
      → after ≡ drop n rest
      → next ≡ option_map (add_written e (take n rest)) told' → Taking e bytes after told next
  taking_more n after next some within after_is next-is = record {
    counts = so_far.counts ++ n ∷ [];
    leaves = subst (Leaves bytes (so_far.counts ++ n ∷ [])) (sym after_is)
        (leaves_push bytes so_far.counts rest n so_far.leaves some within);
    tells = next-is ∙ ap (option_map (add_written e (take n rest))) so_far.tells
        ∙ tells_push (pieces_taken e bytes so_far.counts) e (take n rest) told
        ∙ ap (λ (ws : List (ℕ × List ℕ)). option_map (add_all ws) told)
        (sym (pieces_taken-push e bytes so_far.counts rest n so_far.leaves));
  }

all_taken : (bytes counts rest : List ℕ) → Leaves bytes counts rest → length rest ≡ 0
    → AreTaken (length bytes) counts true
all_taken bytes [] rest h none = sym (ap (λ (xs : List ℕ). length xs) h) ∙ none
all_taken bytes (n ∷ counts) rest h none = (
  h.0,
  h.1,
  subst (λ size. AreTaken size counts true) (length-drop n bytes)
      (all_taken (drop n bytes) counts rest h.2 none),
)

some_left : (bytes counts rest : List ℕ) → Leaves bytes counts rest → 0 < length rest
    → AreTaken (length bytes) counts false
some_left bytes [] rest h some = subst (λ (xs : List ℕ). 0 < length xs) h some
some_left bytes (n ∷ counts) rest h some = (
  h.0,
  h.1,
  subst (λ size. AreTaken size counts false) (length-drop n bytes)
      (some_left (drop n bytes) counts rest h.2 some),
)

module _ {e : ℕ} {bytes rest : List ℕ} {told told' : Option (List DeviceLog)}
    (so_far : Taking e bytes rest told told') where
  -- the device took all
  pub took_all : (faults faults' : ℕ) → length rest ≡ 0 → faults' ≡ faults
      → Offers e bytes true faults told faults' told'
  took_all faults faults' none same = record {
    counts = so_far.counts;
    taken = all_taken bytes so_far.counts rest so_far.leaves none;
    tells = so_far.tells;
    rises = same;
  }

  -- the device failed
  pub gave_up : (faults mid faults' : ℕ) (next : Option (List DeviceLog)) → 0 < length rest → mid ≡ faults
      → Rose mid faults' → next ≡ told' → Offers e bytes false faults told faults' next
  gave_up faults mid faults' next some same rose kept = record {
    counts = so_far.counts;
    taken = some_left bytes so_far.counts rest so_far.leaves some;
    tells = kept ∙ so_far.tells;
    rises = subst (λ (n : ℕ). Rose n faults') same rose;
  }
