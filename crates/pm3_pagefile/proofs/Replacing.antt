-- Pages that are replaced or torn, one write after another.
use Rattle.std.proofs.Common.{◌≡◌, ◌≢◌, ⊎_elim, ℕ, ◌+◌, ◌-◌, ◌*◌, ◌≤◌, eqb, List, ◌++◌, length, take, drop, Option, Some, None, unwrap_or, option_map, refl, sym, ap, subst, ◌∙◌, arith, append_assoc, length-append}
use Rattle.std.proofs.lemmas.List.{take-take, drop-drop, drop-take, take_at, drop_at, length-take-le, length-drop}
use Rattle.std.proofs.lemmas.Bool.{cases_eq, eq-eqb, ne_eqb, cond-true, cond-false, cases_order}
use Rattle.pm3_disk.specs.Content.{IfTold, overwrite, Steps, TornWrite}
use Rattle.pm3_disk.specs.Moments.{Passes, After}
use Rattle.pm3_disk.proofs.Passing.{weaker, then_call, at_last}
use Rattle.pm3_disk.proofs.Contents.{steps_by}
use Rattle.pm3_pagefile.specs.PageBytes.{page_at, Given, IsReplaced, ChangesOnly}
use Rattle.pm3_pagefile.specs.Writing.{only}

-- a page in front of a place, where what is in front of the place stands
front_page : (page place : ℕ) (old new : List ℕ) → 4096 * page + 4096 ≤ place → take place new ≡ take place old → page_at page new ≡ page_at page old
front_page page place old new before same = whole new ∙ ap (λ (l : List ℕ). drop (4096 * page) (take (4096 * page + 4096) l)) same ∙ sym (whole old)
  where
    whole : (l : List ℕ) → page_at page l ≡ drop (4096 * page) (take (4096 * page + 4096) (take place l))
    whole l = sym (drop-take (4096 * page) 4096 l) ∙ ap (drop (4096 * page)) (sym (take-take (4096 * page + 4096) place l before))

-- a page behind a place, where what is behind the place stands
back_page : (page place : ℕ) (old new : List ℕ) → place ≤ 4096 * page → drop place new ≡ drop place old → page_at page new ≡ page_at page old
back_page page place old new behind same = whole new ∙ ap (λ (l : List ℕ). take 4096 (drop (4096 * page - place) l)) same ∙ sym (whole old)
  where
    there : place + (4096 * page - place) ≡ 4096 * page
    there = omega arith

    whole : (l : List ℕ) → page_at page l ≡ take 4096 (drop (4096 * page - place) (drop place l))
    whole l = ap (λ (n : ℕ). take 4096 (drop n l)) (sym there) ∙ ap (take 4096) (sym (drop-drop (4096 * page - place) place l))

-- each page but one stands, where what is in front of it and behind it stands
other_page : (page q : ℕ) (old new : List ℕ) → q ≢ page → take (4096 * page) new ≡ take (4096 * page) old → drop (4096 * page + 4096) new ≡ drop (4096 * page + 4096) old
    → page_at q new ≡ page_at q old
other_page page q old new apart front back =
    ⊎_elim (λ same. absurd (apart same))
    (⊎_elim (λ less. front_page q (4096 * page) old new (omega (arith, less)) front) (λ more. back_page q (4096 * page + 4096) old new (omega (arith, more)) back))
    (cases_order q page)

apart_from : (page q : ℕ) (bytes : List ℕ) → only page bytes q ≡ None → q ≢ page
apart_from page q bytes none same =
    let here : only page bytes q ≡ Some bytes = cond-true (eqb q page) (Some bytes) None (eq-eqb q page same) in
    absurd (cc (here, none))

-- a write of a page that was torn
pub torn_page : (page : ℕ) (bytes old new : List ℕ) → length bytes ≡ 4096 → TornWrite (4096 * page) (length bytes) old new → ChangesOnly (only page bytes) old new
torn_page page bytes old new size torn = record {
  others = λ q none.
      other_page page q old new (apart_from page q bytes none) torn.before
      (subst (λ (n : ℕ). drop (4096 * page + n) new ≡ drop (4096 * page + n) old) size torn.behind);
  no_shorter = torn.no_shorter;
}

-- a write of a page that succeeded
pub put_page : (page : ℕ) (bytes old : List ℕ) → length bytes ≡ 4096 → 4096 * page ≤ length old → IsReplaced (only page bytes) old (overwrite (4096 * page) bytes old)
put_page page bytes old size place = record { each = each; no_shorter = no_shorter }
  where
    new : List ℕ
    new = overwrite (4096 * page) bytes old

    front_size : length (take (4096 * page) old) ≡ 4096 * page
    front_size = length-take-le (4096 * page) old place

    both_size : length (take (4096 * page) old ++ bytes) ≡ 4096 * page + 4096
    both_size = length-append (take (4096 * page) old) bytes ∙ omega (arith, front_size, size)

    grouped : new ≡ take (4096 * page) old ++ (bytes ++ drop (4096 * page + length bytes) old)
    grouped = append_assoc (take (4096 * page) old) bytes (drop (4096 * page + length bytes) old)

    front : take (4096 * page) new ≡ take (4096 * page) old
    front = ap (take (4096 * page)) grouped ∙ take_at (take (4096 * page) old) (bytes ++ drop (4096 * page + length bytes) old) (4096 * page) front_size

    back : drop (4096 * page + 4096) new ≡ drop (4096 * page + 4096) old
    back =
        drop_at (take (4096 * page) old ++ bytes) (drop (4096 * page + length bytes) old) (4096 * page + 4096) both_size
        ∙ ap (λ (n : ℕ). drop (4096 * page + n) old) size

    here : page_at page new ≡ bytes
    here =
        ap (λ (l : List ℕ). take 4096 (drop (4096 * page) l)) grouped
        ∙ ap (take 4096) (drop_at (take (4096 * page) old) (bytes ++ drop (4096 * page + length bytes) old) (4096 * page) front_size)
        ∙ take_at bytes (drop (4096 * page + length bytes) old) 4096 size

    each : (q : ℕ) → page_at q new ≡ unwrap_or (only page bytes q) (page_at q old)
    each q = ⊎_elim at_page elsewhere (cases_eq q page)
      where
        at_page : q ≡ page → page_at q new ≡ unwrap_or (only page bytes q) (page_at q old)
        at_page same =
            ap (λ (p : ℕ). page_at p new) same ∙ here
            ∙ sym (ap (λ (o : Option (List ℕ)). unwrap_or o (page_at q old)) (cond-true (eqb q page) (Some bytes) None (eq-eqb q page same)))

        elsewhere : q ≢ page → page_at q new ≡ unwrap_or (only page bytes q) (page_at q old)
        elsewhere apart =
            other_page page q old new apart front back
            ∙ sym (ap (λ (o : Option (List ℕ)). unwrap_or o (page_at q old)) (cond-false (eqb q page) (Some bytes) None (ne_eqb q page apart)))

    no_shorter : length old ≤ length new
    no_shorter =
        omega (arith, size, both_size, length-append (take (4096 * page) old ++ bytes) (drop (4096 * page + length bytes) old), length-drop (4096 * page + length bytes) old)

-- what was replaced has changed in those pages alone
pub replaced_changes : (given : Given) (old new : List ℕ) → IsReplaced given old new → ChangesOnly given old new
replaced_changes given old new replaced = record {
  others = λ page none. replaced.each page ∙ ap (λ (o : Option (List ℕ)). unwrap_or o (page_at page old)) none;
  no_shorter = replaced.no_shorter;
}

pub changes_nothing : (given : Given) (bytes : List ℕ) → ChangesOnly given bytes bytes
changes_nothing given bytes = record { others = λ page none. refl; no_shorter = omega arith }

-- the first given has no page that the second has not
pub record IsWithin (some all : Given) : Type 0 where
  pub none : (page : ℕ) → all page ≡ None → some page ≡ None

pub changes_both : (first second all : Given) (a b c : List ℕ) → IsWithin first all → IsWithin second all → ChangesOnly first a b → ChangesOnly second b c → ChangesOnly all a c
changes_both first second all a b c in_first in_second one two = record {
  others = λ page none. two.others page (in_second.none page none) ∙ one.others page (in_first.none page none);
  no_shorter = omega (arith, one.no_shorter, two.no_shorter);
}

pub changes_within : (some all : Given) (a b : List ℕ) → IsWithin some all → ChangesOnly some a b → ChangesOnly all a b
changes_within some all a b within one = record {
  others = λ page none. one.others page (within.none page none);
  no_shorter = one.no_shorter;
}

-- each page is given what the later gives, or else what the earlier gives
pub record IsJoin (first second all : Given) : Type 0 where
  pub each : (page : ℕ) (bytes : List ℕ) → unwrap_or (all page) bytes ≡ unwrap_or (second page) (unwrap_or (first page) bytes)

pub replaced_both : (first second all : Given) (a b c : List ℕ) → IsJoin first second all → IsReplaced first a b → IsReplaced second b c → IsReplaced all a c
replaced_both first second all a b c joins one two = record {
  each = λ page. two.each page ∙ ap (unwrap_or (second page)) (one.each page) ∙ sym (joins.each page (page_at page a));
  no_shorter = omega (arith, one.no_shorter, two.no_shorter);
}

-- a step of a content that goes further
pub steps_weaker : (step wider : List ℕ → List ℕ → Type 0) (a b : Option (List ℕ)) → ((x y : List ℕ) → step x y → wider x y) → Steps step a b → Steps wider a b
steps_weaker step wider a b goes steps = record {
  onward = λ x told. let end = steps.onward x told in (end.0, end.1, goes x end.0 end.2);
  back = λ y told. let start = steps.back y told in (start.0, start.1, goes start.0 y start.2);
}

-- a page written on a device, which may tell nothing
pub written_page : (page seen : ℕ) (bytes : List ℕ) (old new : Option (List ℕ)) → seen ≡ page → length bytes ≡ 4096 → IfTold old (λ l. 4096 * page ≤ length l)
    → new ≡ option_map (overwrite (4096 * seen) bytes) old → Steps (IsReplaced (only page bytes)) old new
written_page page seen bytes old new same size place written =
    steps_by (IsReplaced (only page bytes)) (overwrite (4096 * page) bytes) old new
    (subst (λ (p : ℕ). new ≡ option_map (overwrite (4096 * p) bytes) old) same written) (λ l told. put_page page bytes l size (place l told))

torn_at : (page seen : ℕ) (bytes x y : List ℕ) → seen ≡ page → length bytes ≡ 4096 → TornWrite (4096 * seen) (length bytes) x y → ChangesOnly (only page bytes) x y
torn_at page seen bytes x y same size torn = torn_page page bytes x y size (subst (λ (p : ℕ). TornWrite (4096 * p) (length bytes) x y) same torn)

pub torn_steps : (page seen : ℕ) (bytes : List ℕ) (old new : Option (List ℕ)) → seen ≡ page → length bytes ≡ 4096 → Steps (TornWrite (4096 * seen) (length bytes)) old new
    → Steps (ChangesOnly (only page bytes)) old new
torn_steps page seen bytes old new same size steps =
    steps_weaker (TornWrite (4096 * seen) (length bytes)) (ChangesOnly (only page bytes)) old new (λ x y torn. torn_at page seen bytes x y same size torn) steps

-- and of its images
pub torn_passes : (page seen : ℕ) (bytes : List ℕ) (t0 t1 : ℕ) (i0 i1 : ℕ → List ℕ → Type 0) → seen ≡ page → length bytes ≡ 4096
    → Passes t0 t1 i0 i1 (After (i0 t0) (TornWrite (4096 * seen) (length bytes))) → Passes t0 t1 i0 i1 (After (i0 t0) (ChangesOnly (only page bytes)))
torn_passes page seen bytes t0 t1 i0 i1 same size passes =
    weaker {P = After (i0 t0) (TornWrite (4096 * seen) (length bytes))} (After (i0 t0) (ChangesOnly (only page bytes))) passes
    (λ c (d, was, torn). (d, was, torn_at page seen bytes d c same size torn))

-- the images go on by a write of some of the given pages
pub then_write : (some all : Given) (t0 t1 t2 : ℕ) (i0 i1 i2 : ℕ → List ℕ → Type 0) → IsWithin some all
    → Passes t0 t1 i0 i1 (After (i0 t0) (ChangesOnly all)) → Passes t1 t2 i1 i2 (After (i1 t1) (ChangesOnly some)) → Passes t0 t2 i0 i2 (After (i0 t0) (ChangesOnly all))
then_write some all t0 t1 t2 i0 i1 i2 within so_far call =
    then_call {P = After (i0 t0) (ChangesOnly all)} {Q = After (i1 t1) (ChangesOnly some)} so_far call onward
  where
    first : (c : List ℕ) → i0 t0 c → After (i0 t0) (ChangesOnly all) c
    first c was = (c, was, changes_nothing all c)

    last : (d : List ℕ) → i1 t1 d → After (i0 t0) (ChangesOnly all) d
    last d was = at_last {P = After (i0 t0) (ChangesOnly all)} so_far first d was

    onward : (c : List ℕ) → After (i1 t1) (ChangesOnly some) c → After (i0 t0) (ChangesOnly all) c
    onward c (d, was, changed) =
        let start = last d was in
        (start.0, start.1, changes_both all some all start.0 d c (record { none = λ page none. none }) within start.2 changed)
