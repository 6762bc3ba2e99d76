-- How many pages a pass writes at most.
use Rattle.std.proofs.Common.{◌≡◌, ◌≤◌, ◌+◌, ◌||◌, ◌&&◌, ◌∙◌, ◌⊎◌, inl, inr, ℕ, Bool, true, false, cond, T, List, [], ◌∷◌, map, length, refl, sym, ap, arith}
use Rattle.std.proofs.lemmas.List.{length-map}
use Rattle.std.specs.Cmp.{nat_cmp_total}
use Rattle.std.specs.List.{list_any}
use Rattle.std.proofs.Common.{Ordering, Less, Equal, Greater}
use Rattle.std.specs.Ordering.{eq_by_cmp, is_eq, is_lt, nat_cmp}
use Rattle.std.specs.FinMap as images
use Rattle.std.specs.FinMap.{contains_key, contains_key-keys, entries_sorted, len-entries}
use Rattle.std.specs.FinMap.Entries.{below_all, is_sorted}
use Rattle.std.specs.FinSet as set
use Rattle.std.specs.FinSet.{contains-from_list, contains-insert, len-empty, len-insert}
use Rattle.pm3_types.specs.Layout.{PageImage}
use Rattle.pm3_page.specs.PageMap.{Images}
use Rattle.pm3_copy.proofs.Subsets.{no_more}

or_second : (a b : Bool) → b ≡ true → (a || b) ≡ true
or_second true b is = refl
or_second false b is = is

both_hold : (a b : Bool) → T (a && b) → T a × T b
both_hold true b is = (tt, is)
both_hold false b is = absurd is

less_differs : (o : Ordering) → T (is_lt o) → is_eq o ≡ false
less_differs Less is = refl
less_differs Equal is = absurd is
less_differs Greater is = absurd is

-- keys above a number are others
above_none : (x : ℕ) (es : List (ℕ × PageImage)) → T (below_all nat_cmp x es) → list_any (eq_by_cmp nat_cmp x) (map (λ e. e.0) es) ≡ false
above_none x [] is = refl
above_none x (e ∷ es) is =
    let parts = both_hold (is_lt (nat_cmp x e.0)) (below_all nat_cmp x es) is in
    ap (λ (b : Bool). b || list_any (eq_by_cmp nat_cmp x) (map (λ e. e.0) es)) (less_differs (nat_cmp x e.0) parts.0) ∙ above_none x es parts.1

-- so many different keys
keys_many : (es : List (ℕ × PageImage)) → T (is_sorted nat_cmp es) → set.len (set.from_list {R = nat_cmp} (map (λ e. e.0) es)) ≡ length es
keys_many [] is = len-empty nat_cmp
keys_many (e ∷ es) is =
    let parts = both_hold (below_all nat_cmp e.0 es) (is_sorted nat_cmp es) is in
    len-insert nat_cmp_total (set.from_list (map (λ e. e.0) es)) e.0
    ∙ ap (λ (b : Bool). cond b (set.len (set.from_list {R = nat_cmp} (map (λ e. e.0) es))) (set.len (set.from_list {R = nat_cmp} (map (λ e. e.0) es)) + 1))
    (contains-from_list nat_cmp_total (map (λ e. e.0) es) e.0 ∙ above_none e.0 es parts.0)
    ∙ (let rest = keys_many es parts.1 in omega (arith, rest))

pub page_count : (m : Images) → set.len (set.from_list {R = nat_cmp} (images.keys m)) ≡ images.len m
page_count m = keys_many (images.entries m) (entries_sorted m) ∙ sym (len-entries m)

-- a set with the members of a list
with_list : set.FinSet nat_cmp → List ℕ → set.FinSet nat_cmp
with_list s [] = s
with_list s (k ∷ ks) = set.insert (with_list s ks) k

insert_few : (s : set.FinSet nat_cmp) (k : ℕ) → set.len (set.insert s k) ≤ set.len s + 1
insert_few s k = of (set.contains s k) (len-insert nat_cmp_total s k)
  where
    of : (b : Bool) → set.len (set.insert s k) ≡ cond b (set.len s) (set.len s + 1) → set.len (set.insert s k) ≤ set.len s + 1
    of true is = omega (arith, is)
    of false is = omega (arith, is)

with_few : (s : set.FinSet nat_cmp) (ks : List ℕ) → set.len (with_list s ks) ≤ set.len s + length ks
unfolding with_list
with_few s [] = omega arith
with_few s (k ∷ ks) = (let more = insert_few (with_list s ks) k in let few = with_few s ks in omega (arith, more, few))

with_has : (s : set.FinSet nat_cmp) (ks : List ℕ) (q : ℕ) → set.contains (with_list s ks) q ≡ (list_any (eq_by_cmp nat_cmp q) ks || set.contains s q)
unfolding with_list
with_has s [] q = refl
with_has s (k ∷ ks) q = contains-insert nat_cmp_total (with_list s ks) k q ∙ ap (λ (b : Bool). eq_by_cmp nat_cmp q k || b) (with_has s ks q)
    ∙ both (eq_by_cmp nat_cmp q k) (list_any (eq_by_cmp nat_cmp q) ks) (set.contains s q)
  where
    both : (a b c : Bool) → (a || (b || c)) ≡ ((a || b) || c)
    both true b c = refl
    both false b c = refl

module _ (now written : Images) (fresh : List ℕ) (turned : set.FinSet nat_cmp) where
  all : set.FinSet nat_cmp
  all = with_list (with_list turned fresh) (images.keys written)

  all_has : (q : ℕ) → (contains_key written q ≡ true) ⊎ ((list_any (eq_by_cmp nat_cmp q) fresh ≡ true) ⊎ (set.contains turned q ≡ true)) → set.contains all q ≡ true
  unfolding all
  all_has q one = with_has (with_list turned fresh) (images.keys written) q ∙ of one
    where
      by : (list_any (eq_by_cmp nat_cmp q) fresh ≡ true) ⊎ (set.contains turned q ≡ true) → (list_any (eq_by_cmp nat_cmp q) fresh || set.contains turned q) ≡ true
      by (inl new) = ap (λ (b : Bool). b || set.contains turned q) new
      by (inr turns) = or_second (list_any (eq_by_cmp nat_cmp q) fresh) (set.contains turned q) turns

      of : (contains_key written q ≡ true) ⊎ ((list_any (eq_by_cmp nat_cmp q) fresh ≡ true) ⊎ (set.contains turned q ≡ true))
          → (list_any (eq_by_cmp nat_cmp q) (images.keys written) || set.contains (with_list turned fresh) q) ≡ true
      of (inl old) = ap (λ (b : Bool). b || set.contains (with_list turned fresh) q) (sym (contains_key-keys written q) ∙ old)
      of (inr more) = or_second (list_any (eq_by_cmp nat_cmp q) (images.keys written)) (set.contains (with_list turned fresh) q) (with_has turned fresh q ∙ by more)

  -- where each page is one of some images, of a list, or of a set, there are no more than all of these
  pub few_written : ((q : ℕ) → contains_key now q ≡ true → (contains_key written q ≡ true) ⊎ ((list_any (eq_by_cmp nat_cmp q) fresh ≡ true) ⊎ (set.contains turned q ≡ true)))
      → images.len now ≤ images.len written + (length fresh + set.len turned)
  unfolding all
  few_written within =
      let fewer = no_more (set.from_list (images.keys now)) all (λ q is. all_has q (within q (contains_key-keys now q ∙ sym (contains-from_list nat_cmp_total (images.keys now) q) ∙ is))) in
      let count = page_count now in
      let one = with_few (with_list turned fresh) (images.keys written) in let other = with_few turned fresh in
      let long : length (images.keys written) ≡ images.len written = length-map (images.entries written) (λ (e : ℕ × PageImage). e.0) ∙ sym (len-entries written) in
      omega (arith, fewer, count, one, other, long)
