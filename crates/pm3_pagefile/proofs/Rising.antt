-- Pages that are written in the order of their numbers.
use Rattle.std.proofs.Common.{◌≡◌, ◌≢◌, ⊎_elim, ℕ, ◌+◌, ◌<◌, ◌≤◌, false, cond, eqb, ltb, List, Option, Some, None, is_some, unwrap_or, option_map, refl, sym, ap, ◌∙◌, arith}
use Rattle.std.proofs.lemmas.Bool.{cases_eq, cases_lt, eq-eqb, ne_eqb, lt-ltb, le-ltb, cond-true, cond-false}
use Rattle.pm3_disk.specs.Content.{Steps}
use Rattle.pm3_disk.proofs.Contents.{steps_same, steps_both}
use Rattle.pm3_pagefile.specs.PageBytes.{page_at, Given, IsReplaced, ChangesOnly}
use Rattle.pm3_pagefile.specs.Writing.{only}
use Rattle.pm3_pagefile.proofs.Replacing.{IsJoin, IsWithin, replaced_both, replaced_changes, changes_both, steps_weaker}

-- what is given for the pages below a number
abbrev pub below : ℕ → Given → Given
below n given page = cond (ltb page n) (given page) None

below_is : (n page : ℕ) (given : Given) → page < n → below n given page ≡ given page
below_is n page given lt = cond-true (ltb page n) (given page) None (lt-ltb page n lt)

below_none : (n page : ℕ) (given : Given) → n ≤ page → below n given page ≡ None
below_none n page given le = cond-false (ltb page n) (given page) None (le-ltb page n le)

only_is : (page : ℕ) (bytes : List ℕ) → only page bytes page ≡ Some bytes
only_is page bytes = cond-true (eqb page page) (Some bytes) None (eq-eqb page page refl)

only_none : (page q : ℕ) (bytes : List ℕ) → q ≢ page → only page bytes q ≡ None
only_none page q bytes apart = cond-false (eqb q page) (Some bytes) None (ne_eqb q page apart)

-- no page is written at first
pub nothing_yet : (given : Given) (content : Option (List ℕ)) → Steps (IsReplaced (below 0 given)) content content
nothing_yet given content = steps_same (IsReplaced (below 0 given)) content content refl (λ bytes told. record {
  each = λ page. sym (ap (λ (o : Option (List ℕ)). unwrap_or o (page_at page bytes)) (below_none 0 page given (omega arith)));
  no_shorter = omega arith;
})

-- one page more, the next that has something given
pub one_more : (given : Given) (start page : ℕ) (bytes : List ℕ) → start ≤ page → ((q : ℕ) → start ≤ q → q < page → given q ≡ None) → given page ≡ Some bytes
    → IsJoin (below start given) (only page bytes) (below (page + 1) given)
one_more given start page bytes reached least is = record { each = each }
  where
    each : (q : ℕ) (x : List ℕ) → unwrap_or (below (page + 1) given q) x ≡ unwrap_or (only page bytes q) (unwrap_or (below start given q) x)
    each q x = ⊎_elim here (λ apart. ⊎_elim (early apart) (λ high. ⊎_elim (between apart high) (late apart) (cases_lt q page)) (cases_lt q start)) (cases_eq q page)
      where
        left : (o : Option (List ℕ)) → below (page + 1) given q ≡ o → unwrap_or (below (page + 1) given q) x ≡ unwrap_or o x
        left o same = ap (λ (p : Option (List ℕ)). unwrap_or p x) same

        right : (o p : Option (List ℕ)) → only page bytes q ≡ o → below start given q ≡ p → unwrap_or o (unwrap_or p x) ≡ unwrap_or (only page bytes q) (unwrap_or (below start given q) x)
        right o p one two = λ i. unwrap_or (sym one i) (unwrap_or (sym two i) x)

        here : q ≡ page → unwrap_or (below (page + 1) given q) x ≡ unwrap_or (only page bytes q) (unwrap_or (below start given q) x)
        here same =
            left (Some bytes) (below_is (page + 1) q given (omega arith) ∙ ap given same ∙ is)
            ∙ right (Some bytes) None (ap (only page bytes) same ∙ only_is page bytes) (below_none start q given (omega arith))

        early : q ≢ page → q < start → unwrap_or (below (page + 1) given q) x ≡ unwrap_or (only page bytes q) (unwrap_or (below start given q) x)
        early apart low = left (given q) (below_is (page + 1) q given (omega arith)) ∙ right None (given q) (only_none page q bytes apart) (below_is start q given low)

        between : q ≢ page → start ≤ q → q < page → unwrap_or (below (page + 1) given q) x ≡ unwrap_or (only page bytes q) (unwrap_or (below start given q) x)
        between apart high low =
            left None (below_is (page + 1) q given (omega arith) ∙ least q high low) ∙ right None None (only_none page q bytes apart) (below_none start q given high)

        late : q ≢ page → page ≤ q → unwrap_or (below (page + 1) given q) x ≡ unwrap_or (only page bytes q) (unwrap_or (below start given q) x)
        late apart high =
            let above : page < q = omega arith in
            left None (below_none (page + 1) q given (omega arith)) ∙ right None None (only_none page q bytes apart) (below_none start q given (omega arith))

pub more_replaced : (given : Given) (start page : ℕ) (bytes : List ℕ) (a b c : Option (List ℕ)) → IsJoin (below start given) (only page bytes) (below (page + 1) given)
    → Steps (IsReplaced (below start given)) a b → Steps (IsReplaced (only page bytes)) b c → Steps (IsReplaced (below (page + 1) given)) a c
more_replaced given start page bytes a b c joins one two =
    steps_both (IsReplaced (below start given)) (IsReplaced (only page bytes)) (IsReplaced (below (page + 1) given)) a b c one two
    (λ x y z first second. replaced_both (below start given) (only page bytes) (below (page + 1) given) x y z joins first second)

-- nothing more is given
pub all_replaced : (given : Given) (start : ℕ) (a b : Option (List ℕ)) → ((q : ℕ) → start ≤ q → given q ≡ None) → Steps (IsReplaced (below start given)) a b → Steps (IsReplaced given) a b
all_replaced given start a b none steps = steps_weaker (IsReplaced (below start given)) (IsReplaced given) a b goes steps
  where
    same : (q : ℕ) → below start given q ≡ given q
    same q = ⊎_elim (λ low. below_is start q given low) (λ high. below_none start q given high ∙ sym (none q high)) (cases_lt q start)

    goes : (x y : List ℕ) → IsReplaced (below start given) x y → IsReplaced given x y
    goes x y replaced = record {
      each = λ q. replaced.each q ∙ ap (λ (o : Option (List ℕ)). unwrap_or o (page_at q x)) (same q);
      no_shorter = replaced.no_shorter;
    }

pub only_within : (given : Given) (page : ℕ) (bytes : List ℕ) → given page ≡ Some bytes → IsWithin (only page bytes) given
only_within given page bytes is = record { none = none }
  where
    none : (q : ℕ) → given q ≡ None → only page bytes q ≡ None
    none q nothing = ⊎_elim (λ same. absurd (there same)) (λ apart. only_none page q bytes apart) (cases_eq q page)
      where
        there : q ≡ page → ⊥
        there same =
            let some : given q ≡ Some bytes = ap given same ∙ is in
            absurd (cc (some, nothing))

below_within : (given : Given) (start : ℕ) → IsWithin (below start given) given
below_within given start = record {
  none = λ q nothing. ⊎_elim (λ low. below_is start q given low ∙ nothing) (λ high. below_none start q given high) (cases_lt q start);
}

-- a write that failed after some pages were written
pub then_torn : (given : Given) (start page : ℕ) (bytes : List ℕ) (a b c : Option (List ℕ)) → given page ≡ Some bytes
    → Steps (IsReplaced (below start given)) a b → Steps (ChangesOnly (only page bytes)) b c → Steps (ChangesOnly given) a c
then_torn given start page bytes a b c is one two =
    steps_both (IsReplaced (below start given)) (ChangesOnly (only page bytes)) (ChangesOnly given) a b c one two
    (λ x y z first second. changes_both (below start given) (only page bytes) given x y z (below_within given start) (only_within given page bytes is)
    (replaced_changes (below start given) x y first) second)

-- a page without an image is given nothing
pub none_given : {A : Type 0} (f : A → List ℕ) (o : Option A) → is_some o ≡ false → option_map f o ≡ None
none_given f None absent = refl
none_given f (Some x) absent = absurd (cc absent)

pub some_given : {A : Type 0} (f : A → List ℕ) (o : Option A) (x : A) → o ≡ Some x → option_map f o ≡ Some (f x)
some_given f o x is = ap (option_map f) is
