-- Images that go from one collection to another, page by page.
use Rattle.std.proofs.Common.{◌≡◌, ◌≢◌, ◌<◌, ◌≤◌, ◌+◌, ◌∙◌, ◌⊎◌, inl, inr, ℕ, Bool, true, false, List, [], ◌∷◌, ◌++◌, length, Some, None, is_some, refl, sym, ap, subst, arith, length-append}
use Rattle.std.specs.FinMap as map
use Rattle.std.specs.FinSet as set
use Rattle.std.specs.Ordering.{nat_cmp}
use Rattle.std.specs.List.{Contains}
use Rattle.std.proofs.lemmas.Bool.{cases_eq, cases_lt, cases_Bool, false≢true}
use Rattle.std.proofs.lemmas.List.{append_assoc, append-nil}
use Rattle.std.proofs.lemmas.List.Elements.{Contains-append_left, Contains-push_cases, Contains-push}
use Rattle.pm3_types.specs.Layout.{PageImage}
use Rattle.pm3_page.specs.Next.{IsLeast}
use Rattle.pm3_page.specs.PageMap.{Images, IsAtHome}
use Rattle.pm3_copy.specs.Fresh.{AreLeast}
use Rattle.pm3_copy.specs.Sending.{AreSent, AreGone, ArePlaced}
use Rattle.pm3_copy.proofs.Members.{of_least}
use Rattle.pm3_copy.proofs.SoundPages.{get_here, get_else, gone_here, gone_else}
use Rattle.pm3_copy.proofs.Spots.{same_least}
use Rattle.pm3_copy.proofs.Wholes.{none_some}

-- one image
pub sent_one : (page : ℕ) (image : PageImage) (from to left now : Images) → map.get from page ≡ Some image → image.page ≡ page → left ≡ map.remove from page → now ≡ map.insert to image.page image
    → AreSent (λ p. p ≡ page) from to left now
sent_one page image from to left now on home is_left is_now = record {
  there = λ p e. ap (λ (m : Images). map.get m p) is_now ∙ get_here to image.page p image (e ∙ sym home) ∙ sym (ap (map.get from) e ∙ on);
  gone = λ p e. ap (λ (m : Images). map.get m p) is_left ∙ gone_here from page p e;
  others = λ p away. (
    ap (λ (m : Images). map.get m p) is_now ∙ get_else to image.page p image (λ e. away (e ∙ home)),
    ap (λ (m : Images). map.get m p) is_left ∙ gone_else from page p away,
  );
}

pub sent_none : (Goes : ℕ → Type 0) (from to : Images) → ((p : ℕ) → Goes p → ⊥) → AreSent Goes from to from to
sent_none Goes from to none = record { there = λ p is. absurd (none p is); gone = λ p is. absurd (none p is); others = λ p apart. (refl, refl) }

pub sent_as : (P Q : ℕ → Type 0) (from to left now : Images) → AreSent P from to left now → ((p : ℕ) → Q p → P p) → ((p : ℕ) → P p → Q p) → AreSent Q from to left now
sent_as P Q from to left now sent back on = record { there = λ p is. sent.there p (back p is); gone = λ p is. sent.gone p (back p is); others = λ p never. sent.others p (λ is. never (on p is)) }

-- one image more
pub sent_more : (P Q : ℕ → Type 0) (page : ℕ) (from to f t left now : Images) → AreSent P from to f t → AreSent (λ p. p ≡ page) f t left now → map.contains_key f page ≡ true
    → ((p : ℕ) → Q p → p ≢ page → P p) → ((p : ℕ) → P p → Q p) → Q page → AreSent Q from to left now
sent_more P Q page from to f t left now first second there_ before after last = record {
  there = λ p is. there p is (cases_eq p page);
  gone = λ p is. elim (cases_eq p page) [ inl same ↦ second.gone p same | inr away ↦ (second.others p away).1 ∙ first.gone p (before p is away) ];
  others = λ p never. (
      let was = first.others p (λ is. never (after p is)) in
      let step = second.others p (λ e. never (subst Q (sym e) last)) in
      (step.0 ∙ was.0, step.1 ∙ was.1));
}
  where
    fresh : P page → ⊥
    fresh is = false≢true (sym (ap is_some (first.gone page is)) ∙ there_)

    there : (p : ℕ) → Q p → (p ≡ page) ⊎ (p ≢ page) → map.get now p ≡ map.get from p
    there p is (inl same) = second.there p same ∙ ap (map.get f) same ∙ (first.others page fresh).1 ∙ ap (map.get from) (sym same)
    there p is (inr away) = (second.others p away).0 ∙ first.there p (before p is away)

no_member : (p : ℕ) → Contains [] p → ⊥
no_member p (k, low, is) = absurd (omega arith)

-- some of the list have been sent, and the rest are the next ones
pub record AreSending (list more : List ℕ) (has : ℕ → Bool) (from to left now : Images) (next count : ℕ) : Type 0 where
  pub done : List ℕ
  pub rest : List ℕ
  pub split : list ≡ done ++ rest
  pub least : AreLeast has next (rest ++ more)
  pub sent : AreSent (Contains done) from to left now
  pub below : (p : ℕ) → Contains done p → p < next
  pub long : length done ≡ count

pub sending_none : (list more : List ℕ) (has : ℕ → Bool) (from to : Images) (next : ℕ) → AreLeast has next (list ++ more) → AreSending list more has from to from to next 0
sending_none list more has from to next least = record {
  done = [];
  rest = list;
  split = refl;
  least = least;
  sent = sent_none (Contains []) from to no_member;
  below = λ p is. absurd (no_member p is);
  long = refl;
}

-- the same numbers pass another test that agrees from there on
pub least_kept : (has now : ℕ → Bool) (start : ℕ) (list : List ℕ) → ((p : ℕ) → start ≤ p → now p ≡ has p) → AreLeast has start list → AreLeast now start list
least_kept has now start [] same are = tt
least_kept has now start (p ∷ ps) same (least, rest) = (
  record { reached = least.reached; there = same p least.reached ∙ least.there; least = λ q from below. same q from ∙ least.least q from below },
  least_kept has now (p + 1) ps (λ q from. same q (omega (arith, least.reached))) rest,
)

module _ (list more : List ℕ) (has : ℕ → Bool) (from to left now : Images) (next count : ℕ) (are : AreSending list more has from to left now next count) where
  -- there is a further one
  pub one_left : count < length list → (p : ℕ) × IsLeast has next p
  one_left few = by are.rest are.least (let long = length-append are.done are.rest in let split = ap (λ (xs : List ℕ). length xs) are.split in omega (arith, long, split, are.long))
    where
      by : (rest : List ℕ) → AreLeast has next (rest ++ more) → 0 < length rest → (p : ℕ) × IsLeast has next p
      by [] least some = absurd (omega arith)
      by (q ∷ qs) least some = (q, least.0)

  -- a further one is sent
  pub sending_more : (page : ℕ) (new_left new_now : Images) (new_has : ℕ → Bool) → count < length list → IsLeast has next page → map.contains_key left page ≡ true → AreSent (λ p. p ≡ page) left now new_left new_now
      → ((p : ℕ) → page + 1 ≤ p → new_has p ≡ has p) → AreSending list more new_has from to new_left new_now (page + 1) (count + 1)
  sending_more page new_left new_now new_has few least there step same =
      by are.rest are.split are.least (let long = length-append are.done are.rest in let split = ap (λ (xs : List ℕ). length xs) are.split in omega (arith, long, split, are.long))
    where
      by : (rest : List ℕ) → list ≡ are.done ++ rest → AreLeast has next (rest ++ more) → 0 < length rest → AreSending list more new_has from to new_left new_now (page + 1) (count + 1)
      by [] split is some = absurd (omega arith)
      by (q ∷ qs) split is some =
          let e : q ≡ page = same_least has next q page is.0 least in
          record {
            done = are.done ++ page ∷ [];
            rest = qs;
            split = split ∙ ap (λ n. are.done ++ n ∷ qs) e ∙ sym (append_assoc are.done (page ∷ []) qs);
            least = least_kept has new_has (page + 1) (qs ++ more) same (subst (λ n. AreLeast has (n + 1) (qs ++ more)) e is.1);
            sent = sent_more (Contains are.done) (Contains (are.done ++ page ∷ [])) page from to left now new_left new_now are.sent step there
                (λ p is_ away. elim (Contains-push_cases are.done page p is_) [ inl old ↦ old | inr last ↦ absurd (away (sym last)) ]) (λ p is_. Contains-append_left are.done (page ∷ []) p is_) (Contains-push are.done page);
            below = λ p is_. elim (Contains-push_cases are.done page p is_) [ inl old ↦ omega (arith, are.below p old, least.reached) | inr last ↦ omega arith ];
            long = (let long = length-append are.done (page ∷ []) in omega (arith, long, are.long));
          }

  -- the place of an image that has not gone yet
  pub still_free : (p : ℕ) → ((q : ℕ) → map.contains_key from q ≡ true → map.get to q ≡ None) → map.contains_key left p ≡ true → map.get now p ≡ None
  still_free p apart there = (let was = are.sent.others p away in was.0 ∙ apart p (sym (ap is_some was.1) ∙ there))
    where
      away : Contains are.done p → ⊥
      away is = false≢true (sym (ap is_some (are.sent.gone p is)) ∙ there)

  -- all have been sent
  pub sending_all : length list ≤ count → AreSent (Contains list) from to left now × AreLeast has next more
  sending_all most =
      let long = length-append are.done are.rest in
      let split = ap (λ (xs : List ℕ). length xs) are.split in
      by are.rest are.split are.least (omega (arith, long, split, are.long))
    where
      by : (rest : List ℕ) → list ≡ are.done ++ rest → AreLeast has next (rest ++ more) → length rest ≡ 0 → AreSent (Contains list) from to left now × AreLeast has next more
      by [] split is none = (subst (λ xs. AreSent (Contains xs) from to left now) (sym (split ∙ append-nil are.done)) are.sent, is)
      by (q ∷ qs) split is none = absurd (omega arith)

-- images that are taken away one after another
pub record AreGoing (pages : set.FinSet nat_cmp) (old now : Images) (next : ℕ) : Type 0 where
  pub gone : (p : ℕ) → p < next → set.contains pages p ≡ true → map.get now p ≡ None
  pub others : (p : ℕ) → (next ≤ p) ⊎ (set.contains pages p ≡ false) → map.get now p ≡ map.get old p

pub going_more : (pages : set.FinSet nat_cmp) (old now : Images) (next page : ℕ) → AreGoing pages old now next → IsLeast (set.contains pages) next page → AreGoing pages old (map.remove now page) (page + 1)
going_more pages old now next page are least = record {
  gone = λ p below is. elim (cases_eq p page) [
    | inl same ↦ gone_here now page p same
    | inr away ↦ gone_else now page p away ∙ are.gone p (earlier p below is away (cases_lt p next)) is
  ];
  others = λ p which. gone_else now page p (apart p which) ∙ are.others p (still p which);
}
  where
    earlier : (p : ℕ) → p < page + 1 → set.contains pages p ≡ true → p ≢ page → (p < next) ⊎ (next ≤ p) → p < next
    earlier p below is away (inl low) = low
    earlier p below is away (inr high) = absurd (false≢true (sym (least.least p high (omega arith)) ∙ is))

    apart : (p : ℕ) → (page + 1 ≤ p) ⊎ (set.contains pages p ≡ false) → p ≢ page
    apart p (inl high) e = omega arith
    apart p (inr none) e = false≢true (sym none ∙ ap (set.contains pages) e ∙ least.there)

    still : (p : ℕ) → (page + 1 ≤ p) ⊎ (set.contains pages p ≡ false) → (next ≤ p) ⊎ (set.contains pages p ≡ false)
    still p (inl high) = inl (omega (arith, least.reached))
    still p (inr none) = inr none

-- the other images are there as before
pub others_there : (page : ℕ) (from to left now : Images) → AreSent (λ p. p ≡ page) from to left now → (p : ℕ) → page + 1 ≤ p → map.contains_key left p ≡ map.contains_key from p
others_there page from to left now sent p high = ap is_some (sent.others p (λ e. omega arith)).1

pub left_home : (page : ℕ) (images : Images) → IsAtHome images → IsAtHome (map.remove images page)
left_home page images home p image on = elim (cases_eq p page) [
  | inl same ↦ none_some image _ (sym (gone_here images page p same) ∙ on)
  | inr away ↦ home p image (sym (gone_else images page p away) ∙ on)
]

pub going_none : (pages : set.FinSet nat_cmp) (images : Images) → AreGoing pages images images 0
going_none pages images = record { gone = λ p below is. absurd (omega arith); others = λ p which. refl }

pub going_all : (pages : set.FinSet nat_cmp) (old now : Images) (next : ℕ) → AreGoing pages old now next → ((q : ℕ) → next ≤ q → set.contains pages q ≡ false) → AreGone pages old now
going_all pages old now next are past = record {
  gone = λ p is. elim (cases_lt p next) [ inl low ↦ are.gone p low is | inr high ↦ absurd (false≢true (sym (past p high) ∙ is)) ];
  others = λ p none. are.others p (inr none);
}

-- some pages are given up, others are turned, and the filled ones are handed out
pub placed : (first second : List ℕ) (turned freed : set.FinSet nat_cmp) (s w f s1 s2 w1 f1 w2 f2 s3 : Images) (next : ℕ)
    → AreGone freed s s1 → AreSent (λ p. set.contains turned p ≡ true) s1 w s2 w1 → AreSent (Contains first) f w1 f1 w2 → AreSent (Contains second) f1 s2 f2 s3
    → AreLeast (map.contains_key f) 0 (first ++ second) → AreLeast (map.contains_key f1) next second
    → ((p : ℕ) → set.contains turned p ≡ true → map.contains_key s p ≡ true) → ((p : ℕ) → set.contains turned p ≡ true → set.contains freed p ≡ false)
    → ((p : ℕ) → map.contains_key f p ≡ true → (map.get w p ≡ None) × (map.get s p ≡ None))
    → ArePlaced first second turned freed s w f s3 w2
placed first second turned freed s w f s1 s2 w1 f1 w2 f2 s3 next gone turns out back least rest there kept apart = record {
  turns = λ p is. (out.others p (λ among. false≢true (sym (ap is_some (apart p (of_least (map.contains_key f) 0 (first ++ second) p least (Contains-append_left first second p among))).1) ∙ there p is))).0
      ∙ turns.there p is ∙ gone.others p (kept p is);
  persistent = out.there;
  stay_written = λ p none away. (out.others p away).0 ∙ (turns.others p (λ is. false≢true (sym none ∙ is))).0;
  volatile = λ p is. back.there p is ∙ (out.others p (λ among. false≢true (sym (ap is_some (out.gone p among)) ∙ of_least (map.contains_key f1) next second p rest is))).1;
  gone = λ p which away. (back.others p away).0 ∙ away_from p which (cases_Bool (set.contains turned p));
  stays = λ p none not_freed away. (back.others p away).0 ∙ (turns.others p (λ is. false≢true (sym none ∙ is))).1 ∙ gone.others p not_freed;
}
  where
    away_from : (p : ℕ) → (set.contains turned p ≡ true) ⊎ (set.contains freed p ≡ true) → (set.contains turned p ≡ true) ⊎ (set.contains turned p ≡ false) → map.get s2 p ≡ None
    away_from p which (inl is) = turns.gone p is
    away_from p (inl is) (inr none) = absurd (false≢true (sym none ∙ is))
    away_from p (inr is) (inr none) = (turns.others p (λ has. false≢true (sym none ∙ has))).1 ∙ gone.gone p is
