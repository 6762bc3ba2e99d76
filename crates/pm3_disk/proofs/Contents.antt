-- What a step of the content says where the content is told.
use Rattle.std.proofs.Common.{◌≡◌, ℕ, List, Option, Some, None, option_map, refl, sym, ◌∙◌, subst}
use Rattle.pm3_disk.specs.Content.{Anything, Steps}

pub some_is : {x y : List ℕ} → Some x ≡ Some y → x ≡ y
some_is same = cc

pub steps_told : (step : List ℕ → List ℕ → Type 0) (old new : List ℕ) → step old new → Steps step (Some old) (Some new)
steps_told step old new stepped = record {
  onward = λ before is. (new, refl, subst (λ (l : List ℕ). step l new) (some_is is) stepped);
  back = λ after is. (old, refl, subst (λ (l : List ℕ). step old l) (some_is is) stepped);
}

steps_untold : (step : List ℕ → List ℕ → Type 0) → Steps step None None
steps_untold step = record { onward = λ before is. absurd (cc is); back = λ after is. absurd (cc is) }

steps_map : (step : List ℕ → List ℕ → Type 0) (f : List ℕ → List ℕ) (old : Option (List ℕ)) → ((before : List ℕ) → old ≡ Some before → step before (f before)) → Steps step old (option_map f old)
steps_map step f None stepped = steps_untold step
steps_map step f (Some old) stepped = steps_told step old (f old) (stepped old refl)

-- the new content is a function of the old
pub steps_by : (step : List ℕ → List ℕ → Type 0) (f : List ℕ → List ℕ) (old new : Option (List ℕ)) → new ≡ option_map f old → ((before : List ℕ) → old ≡ Some before → step before (f before)) → Steps step old new
steps_by step f old new is stepped = subst (Steps step old) (sym is) (steps_map step f old stepped)

-- or it is the old
pub steps_same : (step : List ℕ → List ℕ → Type 0) (old new : Option (List ℕ)) → new ≡ old → ((before : List ℕ) → old ≡ Some before → step before before) → Steps step old new
steps_same step old new is stepped = record {
  onward = λ before told. (before, is ∙ told, stepped before told);
  back = λ after told. (after, sym is ∙ told, stepped after (sym is ∙ told));
}

-- one step and then another
pub steps_both : (first second both : List ℕ → List ℕ → Type 0) (a b c : Option (List ℕ)) → Steps first a b → Steps second b c → ((x y z : List ℕ) → first x y → second y z → both x z) → Steps both a c
steps_both first second both a b c one two joins = record {
  onward = λ x is. let mid = one.onward x is in let end = two.onward mid.0 mid.1 in (end.0, end.1, joins x mid.0 end.0 mid.2 end.2);
  back = λ z is. let mid = two.back z is in let start = one.back mid.0 mid.1 in (start.0, start.1, joins start.0 mid.0 z start.2 mid.2);
}

-- what is told before a call is told after it, also where nothing more is known
pub told_by : (f : List ℕ → List ℕ) {old new : Option (List ℕ)} → new ≡ option_map f old → Steps Anything old new
told_by f {old} {new} is = steps_by Anything f old new is (λ before told. tt)

pub told_same : (content : Option (List ℕ)) → Steps Anything content content
told_same content = steps_same Anything content content refl (λ before told. tt)

pub told_after : (step : List ℕ → List ℕ → Type 0) {old new : Option (List ℕ)} → Steps step old new → Steps Anything old new
told_after step steps = record {
  onward = λ before is. let end = steps.onward before is in (end.0, end.1, tt);
  back = λ after is. let start = steps.back after is in (start.0, start.1, tt);
}

pub told_on : {a b c : Option (List ℕ)} → Steps Anything a b → Steps Anything b c → Steps Anything a c
told_on {a} {b} {c} one two = steps_both Anything Anything Anything a b c one two (λ x y z first second. tt)
