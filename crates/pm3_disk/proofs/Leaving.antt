-- What a crash may leave after several calls on one disk.
use Rattle.std.proofs.Common.{◌≡◌, ◌∙◌, List, ℕ, Option, None, Some, option_map, refl, sym, ap, subst}
use Rattle.pm3_disk.specs.Content.{IfTold}
use Rattle.pm3_disk.specs.Devices.{IsSynced, Takes, Leaves, LeavesFromTold}
use Rattle.pm3_disk.specs.declared.outside.Disk.{Ghosts}
use Rattle.pm3_disk.proofs.Passing.{weaker, then_call}

module _ {D R : Type 0} (g : Ghosts D R) where
  -- from a synced disk a crash leaves what comes from its bytes
  pub from_synced : {a b : D} (step whole : List ℕ → List ℕ → Type 0) → IsSynced g a → Leaves g a b step
      → ((old left : List ℕ) → g.content a ≡ Some old → step old left → whole old left) → LeavesFromTold g a b whole
  from_synced {a} {b} step whole synced leaves has =
      weaker (λ (c : List ℕ). IfTold (g.content a) (λ bytes. whole bytes c)) leaves
      (λ c (earlier, was, steps) bytes told. has bytes c told (subst (λ (l : List ℕ). step l c) (same earlier was bytes told) steps))
    where
      same : (earlier : List ℕ) → g.may_leave a (g.moment a) earlier → (bytes : List ℕ) → g.content a ≡ Some bytes → earlier ≡ bytes
      same earlier was bytes told = cc (synced.only earlier was, told)

  pub from_read : {a b : D} (step : List ℕ → List ℕ → Type 0) → IsSynced g a → Leaves g a b step → LeavesFromTold g a b step
  from_read step synced leaves = from_synced step step synced leaves (λ old left told is. is)

  pub wider : {a b : D} (step whole : List ℕ → List ℕ → Type 0) → LeavesFromTold g a b step
      → ((old left : List ℕ) → step old left → whole old left) → LeavesFromTold g a b whole
  wider {a} {b} step whole leaves has = weaker (λ (c : List ℕ). IfTold (g.content a) (λ bytes. whole bytes c)) leaves (λ c is bytes told. has bytes c (is bytes told))

  -- One call more: what may be left so far, the step that the disk has taken, what the next call may leave, and how
  -- these join.
  pub then_step : {a b c : D} (taken step whole : List ℕ → List ℕ → Type 0) → LeavesFromTold g a b whole → Takes g a b taken → LeavesFromTold g b c step
      → ((old mid left : List ℕ) → g.content a ≡ Some old → taken old mid → step mid left → whole old left) → LeavesFromTold g a c whole
  then_step {a} {b} {c} taken step whole so_far took call join = then_call so_far call joined
    where
      joined : (left : List ℕ) → IfTold (g.content b) (λ bytes. step bytes left) → IfTold (g.content a) (λ bytes. whole bytes left)
      joined left is old told =
          let (mid, told_mid, by) = took.onward old told in
          join old mid left told by (is mid told_mid)

  -- a step that is a function of the bytes
  pub takes_by : {a b : D} (f : List ℕ → List ℕ) → g.content b ≡ option_map f (g.content a) → Takes g a b (λ old new. new ≡ f old)
  takes_by {a} {b} f is = record {
    onward = λ old told. (f old, is ∙ ap (option_map f) told, refl);
    back = λ new told. source (g.content a) new (sym is ∙ told);
  }
    where
      source : (content : Option (List ℕ)) (new : List ℕ) → option_map f content ≡ Some new → (old : List ℕ) × (content ≡ Some old) × (new ≡ f old)
      source None new is_some = absurd (cc is_some)
      source (Some old) new is_some = (old, refl, cc is_some)
