-- Homes that are filled one after another.
use Rattle.std.proofs.Common.{cond, ◌≡◌, ◌≢◌, ℕ, ◌+◌, ◌-◌, ◌<◌, ◌≤◌, Bool, true, false, if◌then◌else◌, List, Option, Some, None, option_map, nat_lt, length, length-set, get_or, get_or-set_same, get_or-set_other, replicate, refl, sym, ap, ◌∙◌, subst, arith}
use Rattle.std.proofs.Math.ListN.{set}
use Rattle.std.proofs.lemmas.Bool.Decides.{nat_tests}
use Rattle.std.proofs.lemmas.List.{get_or-replicate, get_or_past, length-replicate}
use Rattle.std.specs.FinMap.{get, remove, get-remove}
use Rattle.std.specs.Cmp.{nat_cmp_total}
use Rattle.std.specs.Ordering.{nat_cmp, eq_by_cmp}
use Rattle.pm3_types.specs.Layout.{PageImage}
use Rattle.pm3_types.proofs.Books.{same_key}
use mathlib.Core.Logic.{dite}
use native.Mathlib.Decide.{ℕ_discrete, dec_lt}
use Rattle.pm3_page.specs.PageMap.{Images}
use Rattle.pm3_txn.specs.declared.values.Turn.{Turn as Turns}
use Rattle.pm3_txn.specs.declared.values.Value.{Value}
use Rattle.pm3_txn.specs.declared.values.Value.TheVariants.{Page, Space, Turn}
use Rattle.pm3_txn.specs.Starts.{AreEmptyFrom, GetSpaces, IsFilled, blank_space, first_home, page_home, space_over, with_home}

is_below : (u n : ℕ) → u < n → nat_lt u n ≡ true
is_below u n low = grind (arith, nat_tests, low)

not_below : (u n : ℕ) → n ≤ u → nat_lt u n ≡ false
not_below u n high = grind (arith, nat_tests, high)

pub other_key : (q k : ℕ) (b : Bool) → eq_by_cmp nat_cmp q k ≡ b → q ≢ k → b ≡ false
other_key q k true is other = absurd (other (same_key q k is))
other_key q k false is other = refl

-- what is left once another page's image was taken out
pub others_left : (new old : Images) (page : ℕ) → new ≡ remove old page → (q : ℕ) → q ≢ page → get new q ≡ get old q
others_left new old page is q other =
    ap (λ (m : Images). get m q) is ∙ get-remove nat_cmp_total old page q
    ∙ ap (λ b. cond b None (get old q)) (other_key q page (eq_by_cmp nat_cmp q page) refl other)

module _ {V : Type 0} where
  pub chosen_low : (u n : ℕ) (x y : Option V) → u < n → (if nat_lt u n then x else y) ≡ x
  chosen_low u n x y low = ap (λ (b : Bool). if b then x else y) (is_below u n low)

  pub chosen_high : (u n : ℕ) (x y : Option V) → n ≤ u → (if nat_lt u n then x else y) ≡ y
  chosen_high u n x y high = ap (λ (b : Bool). if b then x else y) (not_below u n high)

  pub filled_none : (n : ℕ) (value : ℕ → Option V) → IsFilled (replicate n None) value 0
  filled_none n value u =
      dite (dec_lt u n) (λ low. get_or-replicate n u None None low) (λ high. get_or_past (replicate n None) u None (let long : length (replicate {A = Option V} n None) ≡ n = length-replicate n None in omega (arith, high, long)))
      ∙ sym (chosen_high u 0 (value u) None (omega arith))

  pub empty_behind : (homes : List (Option V)) (value : ℕ → Option V) (n : ℕ) → IsFilled homes value n → AreEmptyFrom homes n
  empty_behind homes value n is u high = is u ∙ chosen_high u n (value u) None high

  pub filled_at : (homes : List (Option V)) (value : ℕ → Option V) (n u : ℕ) → IsFilled homes value n → u < n → get_or homes u None ≡ value u
  filled_at homes value n u is low = is u ∙ chosen_low u n (value u) None low

  -- the next home gets its value
  pub filled_set : (homes : List (Option V)) (value : ℕ → Option V) (n : ℕ) (x : V) → n < length homes → value n ≡ Some x → IsFilled homes value n
      → IsFilled (set homes n (Some x)) value (n + 1)
  filled_set homes value n x low same is u =
      dite (ℕ_discrete u n)
      (λ here. ap (λ (k : ℕ). get_or (set homes n (Some x)) k None) here ∙ get_or-set_same homes n (Some x) None low ∙ sym same ∙ ap value (sym here) ∙ sym (chosen_low u (n + 1) (value u) None (omega (arith, here))))
      (λ other. get_or-set_other homes n u (Some x) None other ∙ is u
      ∙ dite (dec_lt u n) (λ l. chosen_low u n (value u) None l ∙ sym (chosen_low u (n + 1) (value u) None (omega (arith, l)))) (λ h. chosen_high u n (value u) None (omega (arith, h)) ∙ sym (chosen_high u (n + 1) (value u) None (omega (arith, h, other)))))

  pub filled_bare : (homes : List (Option V)) (value : ℕ → Option V) (n : ℕ) → value n ≡ None → IsFilled homes value n → IsFilled homes value (n + 1)
  filled_bare homes value n none is u =
      is u ∙ dite (dec_lt u n) (λ l. chosen_low u n (value u) None l ∙ sym (chosen_low u (n + 1) (value u) None (omega (arith, l))))
      (λ h. chosen_high u n (value u) None (omega (arith, h)) ∙ dite (ℕ_discrete u n)
      (λ here. sym none ∙ ap value (sym here) ∙ sym (chosen_low u (n + 1) (value u) None (omega (arith, here))))
      (λ other. sym (chosen_high u (n + 1) (value u) None (omega (arith, h, other)))))

  pub filled_more : (homes : List (Option V)) (value : ℕ → Option V) (n : ℕ) → n < length homes → IsFilled homes value n → IsFilled (with_home homes n (value n)) value (n + 1)
  filled_more homes value n low is = chosen (value n) refl
    where
      chosen : (o : Option V) → value n ≡ o → IsFilled (with_home homes n o) value (n + 1)
      chosen None same = filled_bare homes value n same is
      chosen (Some x) same = filled_set homes value n x low same is

  pub length_with : (homes : List (Option V)) (n : ℕ) (o : Option V) → length (with_home homes n o) ≡ length homes
  length_with homes n None = refl
  length_with homes n (Some x) = length-set homes n (Some x)

  -- the same values
  pub filled_as : (homes : List (Option V)) (f g : ℕ → Option V) (n : ℕ) → ((u : ℕ) → u < n → f u ≡ g u) → IsFilled homes f n → IsFilled homes g n
  filled_as homes f g n same is u =
      is u ∙ dite (dec_lt u n) (λ l. chosen_low u n (f u) None l ∙ same u l ∙ sym (chosen_low u n (g u) None l))
      (λ h. chosen_high u n (f u) None (omega (arith, h)) ∙ sym (chosen_high u n (g u) None (omega (arith, h))))

module _ {D R : Type 0} where
  pub spaces_none : (pages : ℕ) (homes : List (Option (Value D R))) → GetSpaces pages homes homes 0
  spaces_none pages homes value is = subst (λ (n : ℕ). IsFilled homes (space_over pages value) n) (let e : pages ≡ pages + 0 = omega arith in e)
      (filled_as homes value (space_over pages value) pages (λ u low. sym (chosen_low u pages (value u) (Some (Space (blank_space (u - pages)))) low)) is)

  pub spaces_more : (pages n : ℕ) (old mid : List (Option (Value D R))) → pages + n < length mid → GetSpaces pages old mid n
      → GetSpaces pages old (set mid (pages + n) (Some (Space (blank_space n)))) (n + 1)
  spaces_more pages n old mid low is value filled =
      let same : space_over pages value (pages + n) ≡ Some (Space (blank_space n)) =
      chosen_high (pages + n) pages (value (pages + n)) (Some (Space (blank_space ((pages + n) - pages)))) (omega arith)
      ∙ ap (λ (k : ℕ). Some (Space (blank_space k))) (let e : (pages + n) - pages ≡ n = omega arith in e)
      in
      subst (λ (k : ℕ). IsFilled (set mid (pages + n) (Some (Space (blank_space n)))) (space_over pages value) k) (let e : (pages + n) + 1 ≡ pages + (n + 1) = omega arith in e)
      (filled_set mid (space_over pages value) (pages + n) (Space (blank_space n)) low same (is value filled))

  pub empty_more : (n : ℕ) (homes : List (Option (Value D R))) (x : Value D R) → AreEmptyFrom homes n → AreEmptyFrom (set homes n (Some x)) (n + 1)
  empty_more n homes x is u high = get_or-set_other homes n u (Some x) None (λ same. (omega (arith, same, high))) ∙ is u (omega (arith, high))

  pub all_filled : (pages : ℕ) (images : Images) (turn : Turns D R) (old homes : List (Option (Value D R))) → length homes ≡ pages + 33
      → IsFilled old (page_home images) pages → GetSpaces pages old homes 32 → IsFilled (set homes (pages + 32) (Some (Turn turn))) (first_home pages images turn) (pages + 33)
  all_filled pages images turn old homes long first spaces =
      let before = filled_as homes (space_over pages (page_home images)) (first_home pages images turn) (pages + 32)
      (λ u low. sym (chosen_low u (pages + 32) (space_over pages (page_home images) u) (Some (Turn turn)) low)) (spaces (page_home images) first) in
      subst (λ (k : ℕ). IsFilled (set homes (pages + 32) (Some (Turn turn))) (first_home pages images turn) k) (let e : (pages + 32) + 1 ≡ pages + 33 = omega arith in e)
      (filled_set homes (first_home pages images turn) (pages + 32) (Turn turn) (omega (arith, long))
      (chosen_high (pages + 32) (pages + 32) (space_over pages (page_home images) (pages + 32)) (Some (Turn turn)) (omega arith)) before)

  -- a page's image moved into its home
  pub page_moved : (pages page : ℕ) (first before after : Images) (mid new : List (Option (Value D R))) → page < pages → length mid ≡ pages + 33
      → get before page ≡ get first page → IsFilled mid (page_home first) page → new ≡ with_home mid page (page_home before page)
      → (length new ≡ pages + 33) × IsFilled new (page_home first) (page + 1)
  page_moved pages page first before after mid new low long same filled is =
      let there : page_home {D = D} {R = R} before page ≡ page_home first page = ap (λ (o : Option PageImage). option_map Page o) same in
      let now_is : new ≡ with_home mid page (page_home first page) = is ∙ ap (with_home mid page) there in (
        ap (λ (l : List (Option (Value D R))). length l) now_is ∙ length_with mid page (page_home first page) ∙ long,
        subst (λ (l : List (Option (Value D R))). IsFilled l (page_home first) (page + 1)) (sym now_is) (filled_more mid (page_home first) page (omega (arith, low, long)) filled),
      )
