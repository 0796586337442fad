-- A Reset of an entry: as many whole frames, or whole packets, are taken off its store as there are.
use Rattle.std.proofs.Common.{◌≡◌, ℕ, zero, suc, ◌+◌, ◌*◌, ◌/◌, ◌≤◌, ◌==◌, ◌&&◌, List, [], ◌∷◌, length, drop}
use Rattle.std.proofs.Common.{Bool, true, false, refl, sym, ap, ap₂, ◌∙◌, arith, if◌then◌else◌}
use Rattle.std.proofs.Math.ListN.{drop_of_length-le}
use Rattle.std.proofs.lemmas.Bool.{ne_eqb}
use Rattle.std.proofs.lemmas.Nat.{div-mul-add}
use Rattle.ca_base.specs.declared.ids.Gate.{Gate}
use Rattle.ca_base.specs.declared.ids.Gate.TheVariants as gate
use Rattle.buffer_ring.specs.declared.step.Deed.TheVariants as deed
use Rattle.buffer_ring.specs.declared.step.StoreStep.TheVariants as step
use Rattle.ca_stage.specs.Stage.{BufferData, Frame, Packet, is_render}
use Rattle.ca_stage.specs.Moves.{moved, reset}
use Rattle.ca_machine.specs.Streams.{is_at_start}
use Rattle.period_engine.specs.declared.entry.StreamEntry.{StreamEntry}
use Rattle.period_engine.specs.Agreement.{IsPacked, data_after, layout_of, words_of}
use Rattle.period_engine.specs.Entries.{stream_with}
use Rattle.service_board.specs.StreamCalls.{IsOfKind}

-- ---- words of whole frames, or of whole packets

over_one : (n : ℕ) → n / 1 ≡ n
over_one n = omega arith

and_none : (n : ℕ) → n ≡ n + 0
and_none n = omega arith

next : (p : ℕ) → p + 1 ≡ suc p
next p = omega arith

over : (m p : ℕ) → (m * suc p) / suc p ≡ m
over m p = ap (λ k. k / suc p) (and_none (m * suc p)) ∙ div-mul-add m (suc p) 0 (omega arith)

whole_words : (plays : Bool) (n m p unit held whole : ℕ) → unit ≡ (if plays then 1 else p + 1) →
    held ≡ (if plays then n else m * suc p) → whole ≡ held / unit → whole ≡ (if plays then n else m)
whole_words true n m p unit held whole u h w = w ∙ ap₂ (λ x y. x / y) h u ∙ over_one n
whole_words false n m p unit held whole u h w = w ∙ ap₂ (λ x y. x / y) h (u ∙ next p) ∙ over m p

-- packets of some frame hold none only if there are none
none_of : (m p : ℕ) → 1 ≤ p → (m * p == 0) ≡ (m == 0)
none_of zero p some = let none : 0 * p ≡ 0 = omega arith in ap (λ k. k == 0) none
none_of (suc m) p some =
    let more : suc m * p ≡ p + m * p = grind arith in
    ne_eqb (suc m * p) 0 (λ e. absurd (omega (arith, e, more, some)))
    ∙ sym (ne_eqb (suc m) 0 (λ e. absurd (omega (arith, e))))

start_by : (plays : Bool) (n m p whole place : ℕ) → whole ≡ (if plays then n else m) → 1 ≤ p →
    ((if plays then n else m * p) == 0 && place == 0) ≡ (whole == 0 && place == 0)
start_by true n m p whole place w some = ap (λ k. k == 0 && place == 0) (sym w)
start_by false n m p whole place w some =
    ap (λ b. b && place == 0) (none_of m p some) ∙ ap (λ k. k == 0 && place == 0) (sym w)

pending_by : (plays : Bool) (xs : List Frame) (m p unit held whole : ℕ) → unit ≡ (if plays then 1 else p + 1) →
    held ≡ (if plays then length xs else m * suc p) → whole ≡ held / unit → (plays ≡ false → xs ≡ []) →
    [] ≡ (if plays then drop (whole * unit) xs else xs)
pending_by true xs m p unit held whole u h w own =
    let all : whole ≡ length xs = whole_words true (length xs) m p unit held whole u h w in
    let size : whole * unit ≡ whole * 1 = ap (λ k. whole * k) u in
    sym (drop_of_length-le xs {i = whole * unit} (omega (arith, all, size)))
pending_by false xs m p unit held whole u h w own = sym (own refl)

packets_by : (plays : Bool) (n : ℕ) (ps : List Packet) (p unit held whole : ℕ) →
    unit ≡ (if plays then 1 else p + 1) → held ≡ (if plays then n else length ps * suc p) → whole ≡ held / unit →
    (plays ≡ true → ps ≡ []) → [] ≡ (if plays then ps else drop ((whole * unit) / suc p) ps)
packets_by true n ps p unit held whole u h w own = sym (own refl)
packets_by false n ps p unit held whole u h w own =
    let all : whole ≡ length ps = whole_words false n (length ps) p unit held whole u h w in
    let size : (whole * unit) / suc p ≡ whole =
    ap (λ k. (whole * k) / suc p) (u ∙ next p) ∙ over whole p in
    sym (drop_of_length-le ps {i = (whole * unit) / suc p} (omega (arith, all, size)))

packed_by : (plays : Bool) (p unit whole : ℕ) → unit ≡ (if plays then 1 else p + 1) → plays ≡ false →
    (k : ℕ) × (whole * unit ≡ k * suc p)
packed_by true p unit whole u e = absurd (cc)
packed_by false p unit whole u e = (whole, ap (λ k. whole * k) (u ∙ next p))

-- ---- an entry whose store was looked at

module _ {E : Type 0} (a : StreamEntry E) (unit held whole : ℕ)
    (u : unit ≡ (if is_render a.kind then 1 else a.period + 1)) (w : whole ≡ held / unit) where
  -- whole packets are retired
  pub packed_whole : IsPacked (layout_of a) (deed.Retires (whole * unit))
  packed_whole = packed_by (is_render a.kind) a.period unit whole u

  module _ (d : BufferData) (found : held ≡ words_of (layout_of a) d) where
    -- whether it is at its start
    pub start_told : 1 ≤ a.period → (place : ℕ) → place ≡ (if is_render a.kind then a.position else a.offered) →
        is_at_start (stream_with d a) ≡ (whole == 0 && place == 0)
    start_told some place is =
        ap (λ k. (if is_render a.kind then length d.pending else length d.packets * a.period) == 0 && k == 0) (sym is)
        ∙ start_by (is_render a.kind) (length d.pending) (length d.packets) a.period whole place
        (whole_words (is_render a.kind) (length d.pending) (length d.packets) a.period unit held whole u found w) some

    -- its stream, reset
    pub emptied_is : (found-open : ℕ) (g : Gate) (store : E) → IsOfKind (layout_of a) d → a.picked ≡ 0 →
        moved reset (stream_with d a)
        ≡ stream_with
        (data_after (layout_of a)
        (step.Acts held g deed.Looks ∷ step.Acts found-open gate.Open (deed.Retires (whole * unit)) ∷ []) d)
        (record a { store = store; position = 0; offered = 0; after_gap = false })
    emptied_is found-open g store kind unpicked =
        let pending =
        pending_by (is_render a.kind) d.pending (length d.packets) a.period unit held whole u found w kind.pending in
        let packets =
        packets_by (is_render a.kind) (length d.pending) d.packets a.period unit held whole u found w kind.packets in
        ap (λ n. record (stream_with d a) {
          picked = n;
          position = 0;
          offered = 0;
          after_gap = false;
          buffer_data = record d { pending = []; packets = [] };
        }) (sym unpicked)
        ∙ ap₂ (λ xs ps. record (stream_with d a) {
          position = 0;
          offered = 0;
          after_gap = false;
          buffer_data = record d { pending = xs; packets = ps };
        }) pending packets
