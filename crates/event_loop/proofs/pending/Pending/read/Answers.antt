use Rattle.std.proofs.Common.{◌≡◌, ◌+◌, ◌≤◌, ◌++◌, ◌∙◌, List, ℕ, length, take, refl, ap, arith}
use Rattle.std.proofs.lemmas.List.{length-take, length-drop, length-take-le}
use Rattle.ca_base.specs.declared.limits.TheConstants.{READ_SIZE}
use Rattle.event_loop.proofs.Windows.{window_grows, window_room, window_stays}
use Rattle.event_loop.proofs.pending.Pending.read.Goals as goal

pub returns-in-Ok-clause-ok : goal.returns-in-Ok-clause-ok
returns-in-Ok-clause-ok g c =
    let p = c.self.inside in
    let is = c.self.invariant in
    let came = take c.in-Ok.count c.read.new.buf in
    let free : p.end + READ_SIZE ≤ length p.bytes.items =
    window_room p.bytes.items c.make_room.new.self.list p.start p.end c.make_room.new.self.capacity READ_SIZE
    (ap (λ v. v.list) c.self.view_is) (ap (λ v. v.capacity) c.self.view_is) is.ordered is.within
    (rw c.in_ok-make_room.ensures.list c.in_ok-make_room.ensures.ok) in
    let size : length c.read.new.buf ≡ c.min-count.result =
    c.read.auto.buf
    ∙ rw (length-take, length-drop)
    (omega (arith, free, c.deref_mut.ensures.len, p.bytes.ok.0, c.min-count.ensures)) in
    let room : p.end + c.in-Ok.count ≤ p.bytes.len =
    omega (arith, c.in-Ok.ensures.count, size, free, p.bytes.ok.0, c.min-count.ensures) in
    record {
      piece = came;
      behind =
          window_grows p.bytes.items c.deref_mut.result.now c.read.new.buf _ _ p.start p.end c.in-Ok.count _ _
          c.deref_mut.ensures.value is.ordered is.within c.in-Ok.ensures.count room refl
          ∙ ap (λ (xs : List ℕ). xs ++ came) (ap (λ v. v.list) c.self.view_is ∙ c.in_ok-make_room.ensures.list);
      size = length-take-le c.in-Ok.count c.read.new.buf c.in-Ok.ensures.count;
      within = omega (arith, c.in-Ok.ensures.count, size, c.min-count.ensures);
      read = c.in-Ok.ensures.gives;
      ends = c.in-Ok.ensures.end;
    }

pub returns-in-Err-clause-list : goal.returns-in-Err-clause-list
returns-in-Err-clause-list g c =
    let p = c.self.inside in
    let is = c.self.invariant in
    window_stays p.bytes.items c.deref_mut.result.now c.read.new.buf _ _ p.start p.end _
    c.deref_mut.ensures.value is.ordered is.within
    (omega (arith, is.within, p.bytes.ok.0)) ∙ ap (λ v. v.list) c.self.view_is ∙ c.in_ok-make_room.ensures.list
