-- Events that no stream sets are left as they were.
use Rattle.std.proofs.Common.{◌≡◌, ℕ, ◌==◌, ◌||◌, ◌&&◌, List, [], ◌∷◌, map, Bool, true, false, refl, sym, ap, ap₂}
use Rattle.std.proofs.Common.{if◌then◌else◌}
use Rattle.std.specs.List.{list_any}
use Rattle.std.proofs.lemmas.Bool.{true≢false}
use Rattle.ca_machine.specs.declared.state.Client.{Client}
use Rattle.period_engine.specs.declared.entry.StreamEntry.{StreamEntry}
use Rattle.stream_entries.specs.Events.{is_signaled_entry, with_event}

-- if no stream sets an event, nothing is changed
none_set : {E : Type 0} (number : ℕ) (all : List (StreamEntry E)) (c : Client) →
    list_any (is_signaled_entry number) all ≡ false → with_event number all c ≡ c
none_set {E} number all c none = ap (λ v. if v then record c { flagged = true } else c) (others all none)
  where
    by : (p q : Bool) (x xs : Bool) → (p || q) ≡ false → (q ≡ false → xs ≡ false) → (x && p || xs) ≡ false
    by true q x xs h f = absurd (true≢false h)
    by false q true xs h f = f h
    by false q false xs h f = f h

    others : (ys : List (StreamEntry E)) → list_any (is_signaled_entry number) ys ≡ false →
        list_any (λ x. x.client.0 == c.client.0 && is_signaled_entry number x) ys ≡ false
    others [] h = refl
    others (y ∷ ys) h =
        by (is_signaled_entry number y) (list_any (is_signaled_entry number) ys) (y.client.0 == c.client.0)
        (list_any (λ x. x.client.0 == c.client.0 && is_signaled_entry number x) ys) h (others ys)

pub none_changed : {E : Type 0} (number : ℕ) (all : List (StreamEntry E)) (clients : List Client) →
    list_any (is_signaled_entry number) all ≡ false → clients ≡ map (with_event number all) clients
none_changed number all [] none = refl
none_changed number all (c ∷ clients) none =
    ap₂ (λ x xs. x ∷ xs) (sym (none_set number all c none)) (none_changed number all clients none)
