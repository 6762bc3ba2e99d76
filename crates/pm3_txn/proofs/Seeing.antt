-- What a view that has seen more of the history still knows.
use Rattle.std.proofs.Common.{◌≡◌, ◌≢◌, ◌<◌, ◌⊎◌, ◌++◌, ◌&&◌, ◌||◌, ◌==◌, ◌∙◌, inl, inr, ℕ, Bool, true, false, nat_lt, List, [], ◌∷◌, Option, Some, None, is_some, refl, sym, ap, subst, arith}
use Rattle.std.proofs.lemmas.Bool.{and_parts, eqb-true}
use Rattle.std.proofs.lemmas.Bool.Decides.{nat_tests}
use Rattle.std.specs.FinMap.{get, contains_key}
use Rattle.std.specs.Option.{option_or}
use Rattle.pm3_core.specs.declared.naming.TheConstants.{BASE}
use Rattle.pm3_types.specs.Fields.{Fields}
use Rattle.pm3_types.specs.Layout.{Sheet, page_in}
use Rattle.pm3_types.specs.PageForm.{is_memory_reference}
use Rattle.pm3_history.specs.Entry.{Done}
use Rattle.pm3_history.specs.Homes.{IsHome}
use Rattle.pm3_history.specs.LastImages.{last_written}
use Rattle.pm3_history.specs.Lawful.{AreLawful}
use Rattle.pm3_history.specs.Opens.{Opens, LawfulFrom}
use Rattle.pm3_history.specs.Persistent.{persistent_book}
use Rattle.pm3_history.specs.State.{State, now}
use Rattle.pm3_history.proofs.Chronicles.{histories_keep, openings_are_chronicled}
use Rattle.pm3_history.proofs.Filing.{openings_are_bounded, histories_are_bounded}
use Rattle.pm3_history.proofs.Histories.{goes_on, lawful_split}
use Rattle.pm3_history.proofs.Holding.{homes_stay}
use Rattle.pm3_history.proofs.Laying.{some_of}
use Rattle.pm3_history.proofs.Staying.{persistent_stay}
use Rattle.pm3_table.specs.declared.view.Told.{Told}
use Rattle.pm3_table.specs.declared.view.View.{View}
use Rattle.pm3_table.specs.Entries.{names_unit, writes}
use Rattle.pm3_table.specs.Histories.{some_has}
use Rattle.pm3_table.specs.Holds.{is_in}
use Rattle.pm3_table.specs.Telling.{Lawful, NoneNames, names, is_steady}
use Rattle.pm3_table.specs.Words.{turn_unit}
use Rattle.pm3_table.proofs.Has.{has_left}
use Rattle.pm3_txn.specs.Knowing.{KnowsObject, KnowsHome, KnowsReference, KnowsWord, is_in_use, state_seen}
use Rattle.pm3_txn.specs.Loads.{IsPersistent}
use Rattle.pm3_txn.specs.TransactionLaws.{IsSettled}

-- after what a lawful view has seen, whatever the files opened to
pub settled_now : (told : Told) (seen : List Done) (st : State) → Lawful told seen → Opens BASE told.pages told.opening st
    → IsSettled told.opening.catalog (now told.opening.catalog BASE st seen)
unfolding LawfulFrom
settled_now told seen st lawful opens =
    let chron = openings_are_chronicled BASE told.pages told.opening st opens in
    let are = lawful st opens in record {
      chronicled = histories_keep told.opening.catalog BASE told.pages st seen chron are;
      bounded = histories_are_bounded told.opening.catalog BASE told.pages st seen chron are (openings_are_bounded BASE told.pages told.opening st opens);
    }

-- so it is after more that is lawful
pub settled_after : (catalog : List Fields) (pages : ℕ) (st : State) (more : List Done) → IsSettled catalog st → AreLawful catalog BASE pages st more
    → IsSettled catalog (now catalog BASE st more)
settled_after catalog pages st more settled are = record {
  chronicled = histories_keep catalog BASE pages st more settled.chronicled are;
  bounded = histories_are_bounded catalog BASE pages st more settled.chronicled are settled.bounded;
}

-- what comes to a lawful history is lawful after it
pub lawful_between : (told : Told) (seen between : List Done) (st : State) → Lawful told (seen ++ between) → Opens BASE told.pages told.opening st
    → AreLawful told.opening.catalog BASE told.pages (now told.opening.catalog BASE st seen) between
unfolding LawfulFrom
lawful_between told seen between st lawful opens = (lawful_split told.opening.catalog BASE told.pages st seen between (lawful st opens)).1

pub lawful_before : (told : Told) (seen between : List Done) → Lawful told (seen ++ between) → Lawful told seen
unfolding LawfulFrom
lawful_before told seen between lawful = λ st opens. (lawful_split told.opening.catalog BASE told.pages st seen between (lawful st opens)).0

pub now_later : (told : Told) (seen between : List Done) (st : State)
    → now told.opening.catalog BASE st (seen ++ between) ≡ now told.opening.catalog BASE (now told.opening.catalog BASE st seen) between
now_later told seen between st = goes_on told.opening.catalog BASE st seen between

unwritten_by : (turn : ℕ) (e : Done) (u : ℕ) → names_unit turn e u ≡ false → get e.written u ≡ None
unwritten_by turn e u none = of (get e.written u) refl
  where
    of : (o : Option Sheet) → get e.written u ≡ o → get e.written u ≡ None
    of None is = is
    of (Some sheet) is = (let has : contains_key e.written u ≡ true = ap is_some is in absurd (grind (arith, nat_tests, has, none)))

both_none : (o p : Option Sheet) → o ≡ None → p ≡ None → option_or o p ≡ None
both_none o p a b = ap (λ (x : Option Sheet). option_or x p) a ∙ b

or_parts : (a b : Bool) → (a || b) ≡ false → (a ≡ false) × (b ≡ false)
or_parts true b e = absurd (cc e)
or_parts false b e = (refl, e)

-- commits that do not name a page do not write it
pub unwritten : (told : Told) (between : List Done) (u : ℕ) → NoneNames told between u → last_written between u ≡ None
unwritten told [] u none = refl
unwritten told (e ∷ es) u none =
    let parts = or_parts (names told e u) (some_has (names told) es u) none in
    both_none (last_written es u) (get e.written u) (unwritten told es u parts.1) (unwritten_by (turn_unit told.pages) e u parts.0)

both_false : (a b : Bool) → a ≡ false → b ≡ false → (a || b) ≡ false
both_false a b one other = ap (λ (x : Bool). x || b) one ∙ other

pub none_written : (told : Told) (between : List Done) (u : ℕ) → NoneNames told between u → some_has writes between u ≡ false
none_written told [] u none = refl
none_written told (e ∷ es) u none =
    let parts = or_parts (names told e u) (some_has (names told) es u) none in
    both_false (writes e u) (some_has writes es u) (ap is_some (unwritten_by (turn_unit told.pages) e u parts.0)) (none_written told es u parts.1)

-- what may be a reference still may
either : (a b c d e : Bool) → (d ≡ true → e ≡ true) → (a && (b || (c || d))) ≡ true → (a && (b || (c || e))) ≡ true
either true true c d e more is = refl
either true false true d e more is = refl
either true false false d e more is = more is
either false b c d e more is = is

pub use_later : (told : Told) (seen between : List Done) (a : ℕ) → is_in_use told seen a ≡ true → is_in_use told (seen ++ between) a ≡ true
use_later told seen between a = either (is_memory_reference BASE told.pages a) (a == 0) (nat_lt (page_in BASE a) told.frontier)
    (some_has writes seen (page_in BASE a)) (some_has writes (seen ++ between) (page_in BASE a)) (has_left writes seen between (page_in BASE a))

-- its form is that of a reference of the store, and its page is known to be persistent
pub use_form : (told : Told) (seen : List Done) (a : ℕ) → is_in_use told seen a ≡ true → is_memory_reference BASE told.pages a ≡ true
use_form told seen a is = (and_parts (is_memory_reference BASE told.pages a) ((a == 0) || (nat_lt (page_in BASE a) told.frontier || some_has writes seen (page_in BASE a))) is).0

pub use_steady : (told : Told) (v : View) (a : ℕ) → a ≢ 0 → is_in_use told v.seen a ≡ true → is_steady told v (page_in BASE a) ≡ true
use_steady told v a other is =
    of (a == 0) (nat_lt (page_in BASE a) told.frontier) (is_in (page_in BASE a) v.steady) (some_has writes v.seen (page_in BASE a))
    (λ nil. other (eqb-true a 0 nil))
    (and_parts (is_memory_reference BASE told.pages a) ((a == 0) || (nat_lt (page_in BASE a) told.frontier || some_has writes v.seen (page_in BASE a))) is).1
  where
    of : (nil low kept written : Bool) → (nil ≡ true → ⊥) → (nil || (low || written)) ≡ true → (low || (kept || written)) ≡ true
    of true low kept written other e = absurd (other refl)
    of false true kept written other e = refl
    of false false true written other e = refl
    of false false false written other e = e

-- a persistent object stays known, as does a page that has one
pub object_later : (told : Told) (v w : View) (between : List Done) (a : ℕ) → w.seen ≡ v.seen ++ between → Lawful told w.seen → KnowsObject told v a → KnowsObject told w a
object_later told v w between a seen lawful known st opens =
    let all : Lawful told (v.seen ++ between) = subst (Lawful told) seen lawful in
    let before = lawful_before told v.seen between all in
    let has = some_of (get (persistent_book BASE (state_seen told v st)) a) (known st opens) in
    ap (λ (h : List Done). is_some (get (persistent_book BASE (now told.opening.catalog BASE st h)) a)) seen
    ∙ ap (λ (s : State). is_some (get (persistent_book BASE s) a)) (now_later told v.seen between st)
    ∙ ap is_some (persistent_stay told.opening.catalog BASE told.pages (state_seen told v st) between a has.0
    (settled_now told v.seen st before opens).chronicled (lawful_between told v.seen between st all opens) has.1)

pub home_later : (told : Told) (v w : View) (between : List Done) (page : ℕ) → w.seen ≡ v.seen ++ between → Lawful told w.seen → KnowsHome told v page → KnowsHome told w page
home_later told v w between page seen lawful known st opens =
    let all : Lawful told (v.seen ++ between) = subst (Lawful told) seen lawful in
    let before = lawful_before told v.seen between all in
    subst (λ (h : List Done). IsHome BASE (now told.opening.catalog BASE st h) page) (sym seen)
    (subst (λ (s : State). IsHome BASE s page) (sym (now_later told v.seen between st))
    (homes_stay told.opening.catalog BASE told.pages (state_seen told v st) between page
    (settled_now told v.seen st before opens).chronicled (lawful_between told v.seen between st all opens) (known st opens)).0)

-- so what is known of a word stays
pub reference_later : (told : Told) (v w : View) (between : List Done) (a : ℕ) → w.seen ≡ v.seen ++ between → Lawful told w.seen → KnowsReference told v a → KnowsReference told w a
reference_later told v w between a seen lawful known = record {
  usable = ap (λ (l : List Done). is_in_use told l a) seen ∙ use_later told v.seen between a known.usable;
  object = object_later told v w between a seen lawful known.object;
}

pub word_later : (told : Told) (v w : View) (between : List Done) (a : ℕ) → w.seen ≡ v.seen ++ between → Lawful told w.seen → KnowsWord told v a → KnowsWord told w a
word_later told v w between a seen lawful (inl nil) = inl nil
word_later told v w between a seen lawful (inr known) = inr (reference_later told v w between a seen lawful known)

-- a page stays persistent
pub persistent_later : (told : Told) (seen between : List Done) (page : ℕ) → IsPersistent told seen page → IsPersistent told (seen ++ between) page
persistent_later told seen between page persistent = record { low = persistent.low; used = of persistent.used }
  where
    of : (page < told.frontier) ⊎ (some_has writes seen page ≡ true) → (page < told.frontier) ⊎ (some_has writes (seen ++ between) page ≡ true)
    of (inl low) = inl low
    of (inr has) = inr (has_left writes seen between page has)

-- the page of a reference that may be held was in use at the start, or a commit wrote it
pub page_use : (told : Told) (seen : List Done) (a : ℕ) → a ≢ 0 → is_in_use told seen a ≡ true → (page_in BASE a < told.frontier) ⊎ (some_has writes seen (page_in BASE a) ≡ true)
page_use told seen a other is =
    of (a == 0) (nat_lt (page_in BASE a) told.frontier) refl (λ nil. other (eqb-true a 0 nil))
    (and_parts (is_memory_reference BASE told.pages a) ((a == 0) || (nat_lt (page_in BASE a) told.frontier || some_has writes seen (page_in BASE a))) is).1
  where
    of : (nil low : Bool) → nat_lt (page_in BASE a) told.frontier ≡ low → (nil ≡ true → ⊥) → (nil || (low || some_has writes seen (page_in BASE a))) ≡ true
        → (page_in BASE a < told.frontier) ⊎ (some_has writes seen (page_in BASE a) ≡ true)
    of true low low_is other e = absurd (other refl)
    of false true low_is other e = inl (grind (arith, nat_tests, low_is))
    of false false low_is other e = inr e
