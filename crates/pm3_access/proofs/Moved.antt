-- Images that move from some pages to others.
use Rattle.std.proofs.Common.{◌≡◌, ◌≢◌, ℕ, zero, suc, ◌+◌, ◌-◌, ◌<◌, ◌≤◌, ◌⊎◌, Bool, true, false, cond, List, [], ◌∷◌, Option, None, Some, is_some, refl, sym, ap, ◌∙◌, arith, inl, inr}
use Rattle.std.proofs.lemmas.Bool.{cases_eq, cases_lt, eq-eqb, ne_eqb}
use Rattle.std.specs.Ordering.{nat_cmp, eq_by_cmp}
use Rattle.std.specs.Cmp.{nat_cmp_total, unsigned_tied}
use Rattle.std.specs.Option.{option_or}
use Rattle.std.specs.FinMap as map
use Rattle.std.specs.FinMap.{nat_cmp-IsAntisymmetric, same_map, get-empty, get-insert, get-remove, get-entries, len-empty, len-insert, len-remove, empty_of_len, find}
use mathlib.Core.Bool.{true≢false}
use Rattle.pm3_types.specs.Layout.{PageImage}
use Rattle.pm3_page.specs.PageMap.{Images, PageMap}
use Rattle.pm3_access.specs.Parts.{added, both, AreWritten, AreUnwritten, Stays, Moves, StaysOrMoves}
use Rattle.pm3_access.proofs.Homes.{is_some_none, get_same, get_other}

abbrev Image : Type 0
Image = Option PageImage

same : (m n : Images) → ((q : ℕ) → map.get m q ≡ map.get n q) → m ≡ n
same m n is = same_map nat_cmp_total nat_cmp-IsAntisymmetric m n is

none_of : {T : Type 0} (o : Option T) → is_some o ≡ false → o ≡ None
none_of None e = refl
none_of (Some x) e = absurd (true≢false e)

pub get_gone : (m : Images) (k q : ℕ) → q ≡ k → map.get (map.remove m k) q ≡ None
get_gone m k q is = get-remove nat_cmp_total m k q ∙ ap (λ b. cond b None (map.get m q)) (unsigned_tied q k ∙ eq-eqb q k is)

pub get_left : (m : Images) (k q : ℕ) → q ≢ k → map.get (map.remove m k) q ≡ map.get m q
get_left m k q ne = get-remove nat_cmp_total m k q ∙ ap (λ b. cond b None (map.get m q)) (unsigned_tied q k ∙ ne_eqb q k ne)

cond_or : (b : Bool) (v : PageImage) (x y : Image) → cond b (Some v) (option_or x y) ≡ option_or (cond b (Some v) x) y
cond_or true v x y = refl
cond_or false v x y = refl

get_added : (images : Images) (es : List (ℕ × PageImage)) (q : ℕ) → map.get (added images es) q ≡ option_or (find nat_cmp q es) (map.get images q)
unfolding added
get_added images [] q = refl
get_added images (e ∷ es) q =
    get-insert nat_cmp_total (added images es) e.0 e.1 q
    ∙ ap (cond (eq_by_cmp nat_cmp q e.0) (Some e.1)) (get_added images es q)
    ∙ cond_or (eq_by_cmp nat_cmp q e.0) e.1 (find nat_cmp q es) (map.get images q)

-- the image of a page in both, which is that in the others if there is one
pub get_both : (images others : Images) (q : ℕ) → map.get (both images others) q ≡ option_or (map.get others q) (map.get images q)
get_both images others q = get_added images (map.entries others) q ∙ ap (λ o. option_or o (map.get images q)) (sym (get-entries others q))

positive : (m : Images) (k : ℕ) (v : PageImage) → map.get m k ≡ Some v → (n : ℕ) → map.len m ≡ n → 0 < n
positive m k v is zero e = absurd (is_some_none v (sym (ap (λ m. map.get m k) (empty_of_len m e) ∙ get-empty nat_cmp k) ∙ is))
positive m k v is (suc n) e = omega arith

-- one image fewer
pub len_gone : (m : Images) (k : ℕ) (v : PageImage) → map.get m k ≡ Some v → map.len (map.remove m k) + 1 ≡ map.len m
len_gone m k v is =
    let less : map.len (map.remove m k) ≡ map.len m - 1 = len-remove nat_cmp_total m k ∙ ap (λ (o : Image). cond (is_some o) (map.len m - 1) (map.len m)) is in
    let some : 0 < map.len m = positive m k v is (map.len m) refl in
    omega arith

pub len_put : (m : Images) (k : ℕ) (v : PageImage) → map.get m k ≡ None → map.len (map.insert m k v) ≡ map.len m + 1
len_put m k v is = len-insert nat_cmp_total m k v ∙ ap (λ (o : Image). cond (is_some o) (map.len m) (map.len m + 1)) is

pub len_some : (m : Images) (k : ℕ) (v : PageImage) → map.get m k ≡ Some v → 0 < map.len m
len_some m k v is = positive m k v is (map.len m) refl

pub is_there : (o : Image) → is_some o ≡ true → (image : PageImage) × (o ≡ Some image)
is_there None e = absurd (true≢false (sym e))
is_there (Some image) e = (image, refl)

-- a page whose image was as it was found, and one whose image was not
pub record IsOther (left found others written : Image) : Type 0 where
  pub found_so : (image : PageImage) → left ≡ Some image → found ≡ Some image
  pub stayed : others ≡ left
  pub not_written : written ≡ None

pub record IsMoved (left found others written : Image) : Type 0 where
  pub not_so : (image : PageImage) → left ≡ Some image → found ≢ Some image
  pub gone : others ≡ None
  pub moved : written ≡ left

-- below n each image is in one of the two, and from n on all are where they were
pub record IsSortedTo (left : PageMap) (found : Images) (others written : PageMap) (n : ℕ) : Type 0 where
  pub below : (q : ℕ) → q < n → IsOther (map.get left.images q) (map.get found q) (map.get others.images q) (map.get written.images q)
      ⊎ IsMoved (map.get left.images q) (map.get found q) (map.get others.images q) (map.get written.images q)
  pub above : (q : ℕ) → n ≤ q → map.get others.images q ≡ map.get left.images q
  pub none_above : (q : ℕ) → n ≤ q → map.get written.images q ≡ None
  pub room : map.len others.images ≤ written.spare
  pub spare : left.spare + map.len written.images ≡ others.spare

pub sorted_none : (left : PageMap) (found : Images) (written : PageMap) → written.images ≡ map.empty → map.len left.images ≤ written.spare → IsSortedTo left found left written 0
sorted_none left found written none room = record {
  below = λ q lt. absurd (omega arith);
  above = λ q le. refl;
  none_above = λ q le. ap (λ m. map.get m q) none ∙ get-empty nat_cmp q;
  room = room;
  spare = let e : map.len written.images ≡ 0 = ap map.len none ∙ len-empty nat_cmp PageImage in omega arith;
}

abbrev At : PageMap → Images → PageMap → PageMap → ℕ → Type 0
At left found others written q =
    IsOther (map.get left.images q) (map.get found q) (map.get others.images q) (map.get written.images q)
    ⊎ IsMoved (map.get left.images q) (map.get found q) (map.get others.images q) (map.get written.images q)

-- pages without an image
absent_at : (left found others written : Image) → left ≡ None → others ≡ left → written ≡ None → IsOther left found others written
absent_at left found others written none is not = record { found_so = λ image e. absurd (is_some_none image (sym none ∙ e)); stayed = is; not_written = not }

-- one page more, where none is between
pub sorted_stays : (left : PageMap) (found : Images) (others written : PageMap) (n page : ℕ) (others' written' : PageMap) → n ≤ page
    → ((q : ℕ) → n ≤ q → q < page → map.contains_key others.images q ≡ false) → Stays page found others written others' written'
    → IsSortedTo left found others written n → IsSortedTo left found others' written' (page + 1)
sorted_stays left found others written n page others' written' le none stays sorted =
    let kept : (q : ℕ) → map.get others'.images q ≡ map.get others.images q = λ q. ap (λ (m : PageMap). map.get m.images q) stays.pages_same in
    let kept' : (q : ℕ) → map.get written'.images q ≡ map.get written.images q = λ q. ap (λ (m : PageMap). map.get m.images q) stays.written_same in
    record {
      below = λ q lt. elim (cases_lt q n) [
        | inl lt' ↦ rw (stays.pages_same, stays.written_same) (sorted.below q lt')
        | inr ge ↦ elim (cases_eq q page) [
          | inl is ↦ inl (record {
            found_so = λ image e. ap (map.get found) is ∙ sym stays.same ∙ sym (ap (map.get others.images) is) ∙ sorted.above q ge ∙ e;
            stayed = kept q ∙ sorted.above q ge;
            not_written = kept' q ∙ sorted.none_above q ge;
          })
          | inr ne ↦ inl (absent_at _ (map.get found q) _ _ (sym (sorted.above q ge) ∙ none_of (map.get others.images q) (none q ge (omega arith))) (kept q ∙ sorted.above q ge)
              (kept' q ∙ sorted.none_above q ge))
        ]
      ];
      above = λ q ge. kept q ∙ sorted.above q (omega arith);
      none_above = λ q ge. kept' q ∙ sorted.none_above q (omega arith);
      room = rw (stays.pages_same, stays.written_same) sorted.room;
      spare = rw (stays.pages_same, stays.written_same) sorted.spare;
    }

pub sorted_moves : (left : PageMap) (found : Images) (others written : PageMap) (n page : ℕ) (others' written' : PageMap) (image : PageImage) → n ≤ page
    → ((q : ℕ) → n ≤ q → q < page → map.contains_key others.images q ≡ false) → Moves page found others written others' written' image
    → IsSortedTo left found others written n → IsSortedTo left found others' written' (page + 1)
sorted_moves left found others written n page others' written' image le none moves sorted =
    let kept : (q : ℕ) → q ≢ page → map.get others'.images q ≡ map.get others.images q = λ q ne. ap (λ m. map.get m q) moves.taken ∙ get_left others.images page q ne in
    let kept' : (q : ℕ) → q ≢ page → map.get written'.images q ≡ map.get written.images q = λ q ne. ap (λ m. map.get m q) moves.put ∙ get_other written.images page q image ne in
    let short : map.len others'.images + 1 ≡ map.len others.images = ap (λ m. map.len m + 1) moves.taken ∙ len_gone others.images page image moves.there in
    let long : map.len written'.images ≡ map.len written.images + 1 = ap map.len moves.put ∙ len_put written.images page image (sorted.none_above page le) in
    let rooms = moves.written_room in
    let spares = moves.pages_room in
    let room = sorted.room in
    let spare = sorted.spare in
    record {
      below = λ q lt. elim (cases_eq q page) [
        | inl is ↦ inr (record {
          not_so = λ other e so. moves.differs (sym (ap (map.get found) is) ∙ so ∙ sym e ∙ sym (sorted.above q (omega arith)) ∙ ap (map.get others.images) is ∙ moves.there);
          gone = ap (λ m. map.get m q) moves.taken ∙ get_gone others.images page q is;
          moved = ap (λ m. map.get m q) moves.put ∙ get_same written.images page q image is ∙ sym (ap (map.get others.images) is ∙ moves.there) ∙ sorted.above q (omega arith);
        })
        | inr ne ↦ elim (cases_lt q n) [
          | inl lt' ↦ rw (kept q ne, kept' q ne) (sorted.below q lt')
          | inr ge ↦ inl (absent_at _ (map.get found q) _ _ (sym (sorted.above q ge) ∙ none_of (map.get others.images q) (none q ge (omega arith))) (kept q ne ∙ sorted.above q ge)
              (kept' q ne ∙ sorted.none_above q ge))
        ]
      ];
      above = λ q ge. let ne : q ≢ page = λ e. omega arith in kept q ne ∙ sorted.above q (omega arith);
      none_above = λ q ge. let ne : q ≢ page = λ e. omega arith in kept' q ne ∙ sorted.none_above q (omega arith);
      room = omega arith;
      spare = omega arith;
    }

pub sorted_more : (left : PageMap) (found : Images) (others written : PageMap) (n page : ℕ) (others' written' : PageMap) → n ≤ page
    → ((q : ℕ) → n ≤ q → q < page → map.contains_key others.images q ≡ false) → StaysOrMoves page found others written others' written'
    → IsSortedTo left found others written n → IsSortedTo left found others' written' (page + 1)
sorted_more left found others written n page others' written' le none (inl stays) sorted = sorted_stays left found others written n page others' written' le none stays sorted
sorted_more left found others written n page others' written' le none (inr moves) sorted = sorted_moves left found others written n page others' written' moves.0 le none moves.1 sorted

-- all of them
pub sorted_at : (left : PageMap) (found : Images) (others written : PageMap) (n : ℕ) → ((q : ℕ) → n ≤ q → map.contains_key others.images q ≡ false)
    → IsSortedTo left found others written n → (q : ℕ) → At left found others written q
sorted_at left found others written n none sorted q = elim (cases_lt q n) [
  | inl lt ↦ sorted.below q lt
  | inr ge ↦ inl (absent_at _ (map.get found q) _ _ (sym (sorted.above q ge) ∙ none_of (map.get others.images q) (none q ge)) (sorted.above q ge) (sorted.none_above q ge))
]

written_at : (left found others written : Image) → IsOther left found others written ⊎ IsMoved left found others written → (image : PageImage)
    → (written ≡ Some image → (left ≡ Some image) × (found ≢ Some image)) × ((left ≡ Some image) × (found ≢ Some image) → written ≡ Some image)
written_at left found others written (inl other) image = (λ e. absurd (is_some_none image (sym other.not_written ∙ e)), λ p. absurd (p.1 (other.found_so image p.0)))
written_at left found others written (inr moved) image =
    (λ e. (sym moved.moved ∙ e, moved.not_so image (sym moved.moved ∙ e)), λ p. moved.moved ∙ p.0)

others_at : (left found others written : Image) → IsOther left found others written ⊎ IsMoved left found others written → (image : PageImage)
    → (others ≡ Some image → (left ≡ Some image) × (found ≡ Some image)) × ((left ≡ Some image) × (found ≡ Some image) → others ≡ Some image)
others_at left found others written (inl other) image = (λ e. (sym other.stayed ∙ e, other.found_so image (sym other.stayed ∙ e)), λ p. other.stayed ∙ p.0)
others_at left found others written (inr moved) image = (λ e. absurd (is_some_none image (sym moved.gone ∙ e)), λ p. absurd (moved.not_so image p.0 p.1))

or_none : (o : Image) → option_or o None ≡ o
or_none None = refl
or_none (Some x) = refl

both_at : (left found others written : Image) → IsOther left found others written ⊎ IsMoved left found others written → option_or written others ≡ left
both_at left found others written (inl other) = ap (λ o. option_or o others) other.not_written ∙ other.stayed
both_at left found others written (inr moved) = ap (option_or written) moved.gone ∙ or_none written ∙ moved.moved

pub record IsSorted (left : PageMap) (found : Images) (others written : PageMap) : Type 0 where
  pub written_so : AreWritten (record { left = left.images; found = found }) written.images
  pub others_so : AreUnwritten (record { left = left.images; found = found }) others.images
  pub both_so : both others.images written.images ≡ left.images
  pub room_so : map.len written.images ≤ others.spare
  pub written_room_so : map.len others.images ≤ written.spare

pub sorted_all : (left : PageMap) (found : Images) (others written : PageMap) (n : ℕ) → ((q : ℕ) → n ≤ q → map.contains_key others.images q ≡ false)
    → IsSortedTo left found others written n → IsSorted left found others written
sorted_all left found others written n none sorted =
    let at : (q : ℕ) → At left found others written q = sorted_at left found others written n none sorted in
    let spare = sorted.spare in
    record {
      written_so = λ q. written_at _ _ _ _ (at q);
      others_so = λ q. others_at _ _ _ _ (at q);
      both_so = same _ _ (λ q. get_both others.images written.images q ∙ both_at _ (map.get found q) _ _ (at q));
      room_so = omega arith;
      written_room_so = sorted.room;
    }

-- images are put with others: below n they are with them, and from n on all are where they were
pub record IsPutTo (first more pages others : Images) (n : ℕ) : Type 0 where
  pub below : (q : ℕ) → q < n → map.get pages q ≡ option_or (map.get more q) (map.get first q)
  pub above : (q : ℕ) → n ≤ q → map.get pages q ≡ map.get first q
  pub rest : (q : ℕ) → n ≤ q → map.get others q ≡ map.get more q
  pub gone : (q : ℕ) → q < n → map.get others q ≡ None

pub put_none : (first more : Images) → IsPutTo first more first more 0
put_none first more = record { below = λ q lt. absurd (omega arith); above = λ q le. refl; rest = λ q le. refl; gone = λ q lt. absurd (omega arith) }

pub put_more : (first more pages others : Images) (n page : ℕ) (image : PageImage) (pages' others' : Images) → n ≤ page → ((q : ℕ) → n ≤ q → q < page → map.contains_key others q ≡ false)
    → map.get others page ≡ Some image → pages' ≡ map.insert pages page image → others' ≡ map.remove others page → IsPutTo first more pages others n → IsPutTo first more pages' others' (page + 1)
put_more first more pages others n page image pages' others' le none is put taken at =
    let kept : (q : ℕ) → q ≢ page → map.get pages' q ≡ map.get pages q = λ q ne. ap (λ m. map.get m q) put ∙ get_other pages page q image ne in
    let kept' : (q : ℕ) → q ≢ page → map.get others' q ≡ map.get others q = λ q ne. ap (λ m. map.get m q) taken ∙ get_left others page q ne in
    record {
      below = λ q lt. elim (cases_eq q page) [
        | inl same ↦ ap (λ m. map.get m q) put ∙ get_same pages page q image same
            ∙ sym (ap (λ o. option_or o (map.get first q)) (ap (map.get more) same ∙ sym (at.rest page le) ∙ is))
        | inr ne ↦ kept q ne ∙ elim (cases_lt q n) [
          | inl lt' ↦ at.below q lt'
          | inr ge ↦ at.above q ge
              ∙ sym (ap (λ o. option_or o (map.get first q)) (sym (at.rest q ge) ∙ none_of (map.get others q) (none q ge (omega arith))))
        ]
      ];
      above = λ q ge. let ne : q ≢ page = λ e. omega arith in kept q ne ∙ at.above q (omega arith);
      rest = λ q ge. let ne : q ≢ page = λ e. omega arith in kept' q ne ∙ at.rest q (omega arith);
      gone = λ q lt. elim (cases_eq q page) [
        | inl e ↦ ap (λ m. map.get m q) taken ∙ get_gone others page q e
        | inr ne ↦ elim (cases_lt q n) [ inl old ↦ kept' q ne ∙ at.gone q old | inr ge ↦ kept' q ne ∙ none_of (map.get others q) (none q ge (omega arith)) ]
      ];
    }

pub put_whole : (first more pages others : Images) (n : ℕ) → ((q : ℕ) → n ≤ q → map.contains_key others q ≡ false) → IsPutTo first more pages others n → pages ≡ both first more
put_whole first more pages others n none at = same _ _ (λ q. elim (cases_lt q n) [
  | inl lt ↦ at.below q lt
  | inr ge ↦ at.above q ge ∙ sym (ap (λ o. option_or o (map.get first q)) (sym (at.rest q ge) ∙ none_of (map.get others q) (none q ge)))
] ∙ sym (get_both first more q))

-- all were put
pub put_empty : (first more pages others : Images) (n : ℕ) → ((q : ℕ) → n ≤ q → map.contains_key others q ≡ false) → IsPutTo first more pages others n → others ≡ map.empty
put_empty first more pages others n none at = same _ _ (λ q. elim (cases_lt q n) [
  | inl lt ↦ at.gone q lt
  | inr ge ↦ none_of (map.get others q) (none q ge)
] ∙ sym (get-empty nat_cmp q))
