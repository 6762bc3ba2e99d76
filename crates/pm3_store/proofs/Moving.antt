-- Images that move from some pages to others, page by page.
use Rattle.std.proofs.Common.{◌≡◌, ◌≢◌, ℕ, zero, suc, ◌+◌, ◌-◌, ◌<◌, ◌≤◌, Bool, true, false, cond, Option, None, Some, is_some, refl, sym, ap, ◌∙◌, subst, arith, inl, inr}
use Rattle.std.proofs.lemmas.Bool.{cases_eq, cases_lt, cases_Bool, eq-eqb, ne_eqb}
use Rattle.std.specs.Ordering.{nat_cmp}
use Rattle.std.specs.Cmp.{nat_cmp_total, unsigned_tied}
use Rattle.std.specs.Option.{option_or}
use Rattle.std.specs.FinMap as map
use Rattle.std.specs.FinMap.{nat_cmp-IsAntisymmetric, same_map, get-empty, get-insert, get-remove, len-empty, len-insert, len-remove, empty_of_len}
use mathlib.Core.Bool.{true≢false}
use Rattle.pm3_types.specs.Layout.{PageImage}
use Rattle.pm3_page.specs.Next.{IsLeast}
use Rattle.pm3_page.specs.PageMap.{Images, IsAtHome, PageMap}
use Rattle.pm3_store.specs.Parting.{ArePartedBy, Moves, StaysOrMoves}

abbrev Image : Type 0
Image = Option PageImage

none_of : {T : Type 0} (o : Option T) → is_some o ≡ false → o ≡ None
none_of None e = refl
none_of (Some x) e = absurd (true≢false e)

pub is_there : (o : Image) → is_some o ≡ true → (image : PageImage) × (o ≡ Some image)
is_there None is = absurd (cc is)
is_there (Some x) is = (x, refl)

get_gone : (m : Images) (k q : ℕ) → q ≡ k → map.get (map.remove m k) q ≡ None
get_gone m k q is = get-remove nat_cmp_total m k q ∙ ap (λ b. cond b None (map.get m q)) (unsigned_tied q k ∙ eq-eqb q k is)

get_left : (m : Images) (k q : ℕ) → q ≢ k → map.get (map.remove m k) q ≡ map.get m q
get_left m k q ne = get-remove nat_cmp_total m k q ∙ ap (λ b. cond b None (map.get m q)) (unsigned_tied q k ∙ ne_eqb q k ne)

pub get_same : (m : Images) (k : ℕ) (v : PageImage) (q : ℕ) → q ≡ k → map.get (map.insert m k v) q ≡ Some v
get_same m k v q is = get-insert nat_cmp_total m k v q ∙ ap (λ b. cond b (Some v) (map.get m q)) (unsigned_tied q k ∙ eq-eqb q k is)

pub get_other : (m : Images) (k : ℕ) (v : PageImage) (q : ℕ) → q ≢ k → map.get (map.insert m k v) q ≡ map.get m q
get_other m k v q ne = get-insert nat_cmp_total m k v q ∙ ap (λ b. cond b (Some v) (map.get m q)) (unsigned_tied q k ∙ ne_eqb q k ne)

positive : (m : Images) (k : ℕ) (v : PageImage) → map.get m k ≡ Some v → (n : ℕ) → map.len m ≡ n → 0 < n
positive m k v is zero e = absurd (cc (sym (ap (λ m. map.get m k) (empty_of_len m e) ∙ get-empty nat_cmp k) ∙ is))
positive m k v is (suc n) e = omega arith

-- where an image is there is one at least
pub len_some : (m : Images) (k : ℕ) (v : PageImage) → map.get m k ≡ Some v → 0 < map.len m
len_some m k v is = positive m k v is (map.len m) refl

len_gone : (m : Images) (k : ℕ) (v : PageImage) → map.get m k ≡ Some v → map.len (map.remove m k) + 1 ≡ map.len m
len_gone m k v is =
    let less : map.len (map.remove m k) ≡ map.len m - 1 = len-remove nat_cmp_total m k ∙ ap (λ (o : Image). cond (is_some o) (map.len m - 1) (map.len m)) is in
    let some : 0 < map.len m = len_some m k v is in
    omega arith

len_put : (m : Images) (k : ℕ) (v : PageImage) → map.get m k ≡ None → map.len (map.insert m k v) ≡ map.len m + 1
len_put m k v is = len-insert nat_cmp_total m k v ∙ ap (λ (o : Image). cond (is_some o) (map.len m) (map.len m + 1)) is

-- one image has gone from some and come to others
pub record IsMovedAt (p : ℕ) (mine others mine_now others_now : Images) : Type 0 where
  pub gone : map.get mine_now p ≡ None
  pub put : map.get others_now p ≡ map.get mine p
  pub mine_else : (q : ℕ) → q ≢ p → map.get mine_now q ≡ map.get mine q
  pub others_else : (q : ℕ) → q ≢ p → map.get others_now q ≡ map.get others q

pub moved_at : (p : ℕ) (mine others mine_now others_now : PageMap) → Moves p mine others mine_now others_now → IsMovedAt p mine.images others.images mine_now.images others_now.images
moved_at p mine others mine_now others_now moved = record {
  gone = ap (λ (m : Images). map.get m p) moved.gone ∙ get_gone mine.images p p refl;
  put = ap (λ (m : Images). map.get m p) moved.put ∙ get_same others.images p moved.image p refl ∙ sym moved.there;
  mine_else = λ q ne. ap (λ (m : Images). map.get m q) moved.gone ∙ get_left mine.images p q ne;
  others_else = λ q ne. ap (λ (m : Images). map.get m q) moved.put ∙ get_other others.images p moved.image q ne;
}

-- the rooms after a move
pub moved_room : (p : ℕ) (mine others mine_now others_now : PageMap) → Moves p mine others mine_now others_now → map.get others.images p ≡ None
    → map.len mine.images ≤ others.spare → map.len others.images ≤ mine.spare
    → (map.len mine_now.images ≤ others_now.spare) × (map.len others_now.images ≤ mine_now.spare)
moved_room p mine others mine_now others_now moved none room back =
    let less : map.len mine_now.images + 1 ≡ map.len mine.images = ap (λ (m : Images). map.len m + 1) moved.gone ∙ len_gone mine.images p moved.image moved.there in
    let more : map.len others_now.images ≡ map.len others.images + 1 = ap map.len moved.put ∙ len_put others.images p moved.image none in
    let freed = moved.freed in
    let used = moved.used in
    (omega arith, omega arith)

-- the images of the pages below `start` are parted by the test, and those from it on are all mine
pub record IsPartedTo (test : ℕ → Bool) (whole mine others : Images) (start : ℕ) : Type 0 where
  pub passed : (q : ℕ) → q < start → test q ≡ true → (map.get mine q ≡ map.get whole q) × (map.get others q ≡ None)
  pub failed : (q : ℕ) → q < start → test q ≡ false → (map.get mine q ≡ None) × (map.get others q ≡ map.get whole q)
  pub ahead : (q : ℕ) → start ≤ q → (map.get mine q ≡ map.get whole q) × (map.get others q ≡ None)

pub parted_none : (test : ℕ → Bool) (whole others : Images) → others ≡ map.empty → IsPartedTo test whole whole others 0
parted_none test whole others none = record {
  passed = λ q low. absurd (omega (arith, low));
  failed = λ q low. absurd (omega (arith, low));
  ahead = λ q low. (refl, ap (λ (m : Images). map.get m q) none ∙ get-empty nat_cmp q);
}

module _ (test : ℕ → Bool) (whole mine others : Images) (start page : ℕ) (so_far : IsPartedTo test whole mine others start)
    (least : IsLeast (map.contains_key mine) start page) where
  passed_gap : (q : ℕ) → q < page → test q ≡ true → (map.get mine q ≡ map.get whole q) × (map.get others q ≡ None)
  passed_gap q low is = elim (cases_lt q start) [ inl before ↦ so_far.passed q before is | inr behind ↦ so_far.ahead q behind ]

  failed_gap : (q : ℕ) → q < page → test q ≡ false → (map.get mine q ≡ None) × (map.get others q ≡ map.get whole q)
  failed_gap q low is = elim (cases_lt q start) [
    | inl before ↦ so_far.failed q before is
    | inr behind ↦ (let none = none_of (map.get mine q) (least.least q behind low) in
        (none, (so_far.ahead q behind).1 ∙ sym none ∙ (so_far.ahead q behind).0))
  ]

  pub parted_stays : test page ≡ true → IsPartedTo test whole mine others (page + 1)
  parted_stays passes = record {
    passed = λ q low is. elim (cases_lt q page) [
      | inl before ↦ passed_gap q before is
      | inr behind ↦ so_far.ahead q (omega (arith, behind, least.reached))
    ];
    failed = λ q low is. elim (cases_lt q page) [
      | inl before ↦ failed_gap q before is
      | inr behind ↦ (let same : q ≡ page = omega (arith, behind, low) in
          absurd (true≢false (sym passes ∙ ap test (sym same) ∙ is)))
    ];
    ahead = λ q low. so_far.ahead q (omega (arith, low, least.reached));
  }

  pub parted_moves : (mine_now others_now : Images) → test page ≡ false → IsMovedAt page mine others mine_now others_now → IsPartedTo test whole mine_now others_now (page + 1)
  parted_moves mine_now others_now fails moved = record {
    passed = λ q low is. elim (cases_lt q page) [
      | inl before ↦ (let was = passed_gap q before is in
          (moved.mine_else q (λ e. omega (arith, e, before)) ∙ was.0, moved.others_else q (λ e. omega (arith, e, before)) ∙ was.1))
      | inr behind ↦ (let same : q ≡ page = omega (arith, behind, low) in
          absurd (true≢false (sym is ∙ ap test same ∙ fails)))
    ];
    failed = λ q low is. elim (cases_lt q page) [
      | inl before ↦ (let was = failed_gap q before is in
          (moved.mine_else q (λ e. omega (arith, e, before)) ∙ was.0, moved.others_else q (λ e. omega (arith, e, before)) ∙ was.1))
      | inr behind ↦ (let same : q ≡ page = omega (arith, behind, low) in
          (ap (map.get mine_now) same ∙ moved.gone, ap (map.get others_now) same ∙ moved.put ∙ (so_far.ahead page least.reached).0 ∙ ap (map.get whole) (sym same)))
    ];
    ahead = λ q low. (let was = so_far.ahead q (omega (arith, low, least.reached)) in
        (moved.mine_else q (λ e. omega (arith, e, low)) ∙ was.0, moved.others_else q (λ e. omega (arith, e, low)) ∙ was.1));
  }

pub parted_all : (test : ℕ → Bool) (whole mine others : Images) (start : ℕ) → IsPartedTo test whole mine others start
    → ((q : ℕ) → start ≤ q → map.contains_key mine q ≡ false) → ArePartedBy test whole mine others
parted_all test whole mine others start so_far none = record {
  passed = λ q is. elim (cases_lt q start) [ inl before ↦ so_far.passed q before is | inr behind ↦ so_far.ahead q behind ];
  failed = λ q is. elim (cases_lt q start) [
    | inl before ↦ so_far.failed q before is
    | inr behind ↦ (let gone = none_of (map.get mine q) (none q behind) in
        (gone, (so_far.ahead q behind).1 ∙ sym gone ∙ (so_far.ahead q behind).0))
  ];
}

-- the images below `start` are joined
pub record IsJoinedTo (images others images_now others_now : Images) (start : ℕ) : Type 0 where
  pub joined : (q : ℕ) → q < start → map.get images_now q ≡ option_or (map.get others q) (map.get images q)
  pub above : (q : ℕ) → start ≤ q → map.get images_now q ≡ map.get images q
  pub rest : (q : ℕ) → start ≤ q → map.get others_now q ≡ map.get others q

pub joined_none : (images others : Images) → IsJoinedTo images others images others 0
joined_none images others = record { joined = λ q low. absurd (omega (arith, low)); above = λ q low. refl; rest = λ q low. refl }

or_some : (o : Image) (v : PageImage) (was : Image) → o ≡ Some v → o ≡ option_or o was
or_some None v was is = absurd (cc is)
or_some (Some x) v was is = refl

or_none : (o was : Image) → o ≡ None → was ≡ option_or o was
or_none None was is = refl
or_none (Some x) was is = absurd (cc is)

module _ (images others images_now others_now : Images) (start : ℕ) (so_far : IsJoinedTo images others images_now others_now start) where
  pub joined_more : (page : ℕ) (images_then others_then : Images) → IsLeast (map.contains_key others_now) start page → IsMovedAt page others_now images_now others_then images_then
      → IsJoinedTo images others images_then others_then (page + 1)
  joined_more page images_then others_then least moved = record {
    joined = λ q low. elim (cases_lt q page) [
      | inl before ↦ moved.others_else q (λ e. omega (arith, e, before)) ∙ below q before
      | inr behind ↦ (let same : q ≡ page = omega (arith, behind, low) in
          let there = is_there (map.get others_now page) least.there in
          let now : map.get images_then q ≡ map.get others q = ap (map.get images_then) same ∙ moved.put ∙ so_far.rest page least.reached ∙ ap (map.get others) (sym same) in
          let was : map.get others q ≡ Some there.0 = ap (map.get others) same ∙ sym (so_far.rest page least.reached) ∙ there.1 in
          now ∙ or_some (map.get others q) there.0 (map.get images q) was)
    ];
    above = λ q low. moved.others_else q (λ e. omega (arith, e, low)) ∙ so_far.above q (omega (arith, low, least.reached));
    rest = λ q low. moved.mine_else q (λ e. omega (arith, e, low)) ∙ so_far.rest q (omega (arith, low, least.reached));
  }
    where
      below : (q : ℕ) → q < page → map.get images_now q ≡ option_or (map.get others q) (map.get images q)
      below q before = elim (cases_lt q start) [
        | inl earlier ↦ so_far.joined q earlier
        | inr later ↦ (let none = none_of (map.get others_now q) (least.least q later before) in
            so_far.above q later ∙ or_none (map.get others q) (map.get images q) (sym (so_far.rest q later) ∙ none))
      ]

  pub joined_all : ((q : ℕ) → start ≤ q → map.contains_key others_now q ≡ false) → (q : ℕ) → map.get images_now q ≡ option_or (map.get others q) (map.get images q)
  joined_all none q = elim (cases_lt q start) [
    | inl before ↦ so_far.joined q before
    | inr behind ↦ (let gone = none_of (map.get others_now q) (none q behind) in
        so_far.above q behind ∙ or_none (map.get others q) (map.get images q) (sym (so_far.rest q behind) ∙ gone))
  ]

or_nothing : (o : Image) → option_or o None ≡ o
or_nothing None = refl
or_nothing (Some x) = refl

-- what was parted and joined is as it was
pub whole_again : (test : ℕ → Bool) (whole mine others now : Images) → ArePartedBy test whole mine others
    → ((q : ℕ) → map.get now q ≡ option_or (map.get others q) (map.get mine q)) → now ≡ whole
whole_again test whole mine others now parted joined = same_map nat_cmp_total nat_cmp-IsAntisymmetric now whole (λ q. joined q ∙ each q)
  where
    each : (q : ℕ) → option_or (map.get others q) (map.get mine q) ≡ map.get whole q
    each q = elim (cases_Bool (test q)) [
      | inl is ↦ sym (or_none (map.get others q) (map.get mine q) (parted.passed q is).1) ∙ (parted.passed q is).0
      | inr is ↦ ap (λ (o : Image). option_or (map.get others q) o) (parted.failed q is).0 ∙ or_nothing (map.get others q) ∙ (parted.failed q is).1
    ]

pub parted_apart : (test : ℕ → Bool) (whole mine others : Images) → ArePartedBy test whole mine others → (page : ℕ) → map.get others page ≢ None → map.get mine page ≡ None
parted_apart test whole mine others parted page some = elim (cases_Bool (test page)) [
  | inl is ↦ absurd (some (parted.passed page is).1)
  | inr is ↦ (parted.failed page is).0
]

-- what is parted was there before
pub mine_was : (test : ℕ → Bool) (whole mine others : Images) → ArePartedBy test whole mine others → (page : ℕ) (image : PageImage) → map.get mine page ≡ Some image → map.get whole page ≡ Some image
mine_was test whole mine others parted page image is = elim (cases_Bool (test page)) [
  | inl passes ↦ sym (parted.passed page passes).0 ∙ is
  | inr fails ↦ absurd (cc (sym (parted.failed page fails).0 ∙ is))
]

pub others_were : (test : ℕ → Bool) (whole mine others : Images) → ArePartedBy test whole mine others → (page : ℕ) (image : PageImage) → map.get others page ≡ Some image → map.get whole page ≡ Some image
others_were test whole mine others parted page image is = elim (cases_Bool (test page)) [
  | inl passes ↦ absurd (cc (sym (parted.passed page passes).1 ∙ is))
  | inr fails ↦ sym (parted.failed page fails).1 ∙ is
]

pub still_home : (p : ℕ) (mine others mine_now others_now : PageMap) → Moves p mine others mine_now others_now → IsAtHome mine.images → IsAtHome mine_now.images
still_home p mine others mine_now others_now moved home page image is = elim (cases_eq page p) [
  | inl same ↦ absurd (cc (sym (ap (map.get mine_now.images) same ∙ (moved_at p mine others mine_now others_now moved).gone) ∙ is))
  | inr other ↦ home page image (sym ((moved_at p mine others mine_now others_now moved).mine_else page other) ∙ is)
]

pub moved_room_back : (p : ℕ) (mine others mine_now others_now : PageMap) → Moves p mine others mine_now others_now → map.len mine.images ≤ others.spare → map.len mine_now.images ≤ others_now.spare
moved_room_back p mine others mine_now others_now moved room =
    let less : map.len mine_now.images + 1 ≡ map.len mine.images = ap (λ (m : Images). map.len m + 1) moved.gone ∙ len_gone mine.images p moved.image moved.there in
    let used = moved.used in
    omega arith

-- no image has come
pub settled_fewer : (passes : Bool) (p : ℕ) (mine others mine_now others_now : PageMap) → StaysOrMoves passes p mine others mine_now others_now → map.len mine_now.images ≤ map.len mine.images
settled_fewer true p mine others mine_now others_now step =
    let same : map.len mine_now.images ≡ map.len mine.images = ap (λ (m : PageMap). map.len m.images) (step.stays refl).0 in
    omega arith
settled_fewer false p mine others mine_now others_now step =
    let moved = step.moves refl in
    let less : map.len mine_now.images + 1 ≡ map.len mine.images = ap (λ (m : Images). map.len m + 1) moved.gone ∙ len_gone mine.images p moved.image moved.there in
    omega arith

pub no_room_used : (images : Images) (spare : ℕ) → images ≡ map.empty → map.len images ≤ spare
no_room_used images spare none =
    let nothing : map.len images ≡ 0 = ap map.len none ∙ len-empty nat_cmp PageImage in
    omega arith

pub record IsPartedOn (test : ℕ → Bool) (whole : Images) (mine others : PageMap) (start : ℕ) : Type 0 where
  pub parted_so : IsPartedTo test whole mine.images others.images start
  pub at_home_so : IsAtHome mine.images
  pub room_so : map.len mine.images ≤ others.spare
  pub others_room_so : map.len others.images ≤ mine.spare

pub settled_parts : (test : ℕ → Bool) (whole : Images) (mine others mine_now others_now : PageMap) (start page : ℕ) → IsPartedTo test whole mine.images others.images start
    → IsLeast (map.contains_key mine.images) start page → StaysOrMoves (test page) page mine others mine_now others_now → IsAtHome mine.images
    → map.len mine.images ≤ others.spare → map.len others.images ≤ mine.spare → IsPartedOn test whole mine_now others_now (page + 1)
settled_parts test whole mine others mine_now others_now start page so_far least step home room back = elim (cases_Bool (test page)) [
  | inl passes ↦ (let same = step.stays passes in
      let stayed : IsPartedOn test whole mine others (page + 1) = record {
        parted_so = parted_stays test whole mine.images others.images start page so_far least passes;
        at_home_so = home;
        room_so = room;
        others_room_so = back;
      } in
      subst (λ (m : PageMap). IsPartedOn test whole m others_now (page + 1)) (sym same.0) (subst (λ (o : PageMap). IsPartedOn test whole mine o (page + 1)) (sym same.1) stayed))
  | inr fails ↦ (let moved = step.moves fails in
      let rooms = moved_room page mine others mine_now others_now moved (so_far.ahead page least.reached).1 room back in
      record {
        parted_so = parted_moves test whole mine.images others.images start page so_far least mine_now.images others_now.images fails (moved_at page mine others mine_now others_now moved);
        at_home_so = still_home page mine others mine_now others_now moved home;
        room_so = rooms.0;
        others_room_so = rooms.1;
      })
]
