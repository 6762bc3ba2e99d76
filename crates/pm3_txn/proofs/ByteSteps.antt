-- Runs of bytes of tails: which are there, and each byte read or written as one operation more.
use Rattle.std.proofs.Common.{◌≡◌, ◌≢◌, ◌<◌, ◌≤◌, ◌+◌, ◌/◌, ◌%◌, ◌&&◌, ◌++◌, ◌∙◌, inl, inr, ℕ, suc, Bool, true, false, nat_lt, if◌then◌else◌, List, [], ◌∷◌, length, Option, Some, None, is_some, slice_get, slice_index, get_or, take, get_or-set_other, refl, sym, ap, subst, arith}
use Rattle.std.proofs.Math.ListN.{set}
use Rattle.std.proofs.lemmas.Bool.{lt-ltb, le-ltb, false≢true}
use Rattle.std.proofs.lemmas.List.{take_more, length-take-le}
use Rattle.std.specs.Option.{option_map}
use Rattle.pm3_core.specs.declared.naming.TheConstants.{BASE}
use Rattle.pm3_graph.specs.declared.operations.Op.{Op}
use Rattle.pm3_graph.specs.declared.operations.Op.TheVariants as operation
use Rattle.pm3_types.specs.Fields.{Fields, has_bytes}
use Rattle.pm3_types.specs.Layout.{PageImage, page_in, word_in, head_at, type_in, tail_in, with_word_at}
use Rattle.pm3_types.specs.PageForm.{map_at, tail_at}
use Rattle.pm3_types.specs.Shown.{byte_in}
use Rattle.pm3_access.specs.declared.places.Place.{Place}
use Rattle.pm3_access.specs.declared.places.Place.TheVariants.{Byte}
use Rattle.pm3_access.specs.Access.{begins_in, is_object_held, value_by, value_held, written_by}
use Rattle.pm3_access.specs.Acts.{map_by, map_held}
use Rattle.pm3_access.specs.Holding.{Holding, image_in}
use Rattle.pm3_access.specs.Sound.{refers_in, refers_by}
use Rattle.pm3_access.specs.Spots.{spot_by, spot_in, spot_at, value_in, word_of, byte_of, with_value_in}
use Rattle.pm3_access.proofs.HeldObjects.{map_of}
use Rattle.pm3_access.proofs.HeldSheets.{changed, changed_here, written_is}
use Rattle.pm3_access.proofs.Homes.{is_some_none}
use Rattle.pm3_access.proofs.RecordPlaces.{byte_is, if_spot}
use Rattle.pm3_access.proofs.RecordWrites.{with_value_is, word_written}
use Rattle.pm3_history.specs.Opens.{Opens}
use Rattle.pm3_history.specs.State.{State}
use Rattle.pm3_history.proofs.Laying.{one_value}
use Rattle.pm3_table.specs.declared.view.Told.{Told}
use Rattle.pm3_table.specs.declared.view.View.{View}
use Rattle.pm3_txn.specs.Answers.{with_step}
use Rattle.pm3_txn.specs.ByteRuns.{has_byte, HasRun, IsFirstMissing, HasBytes, bytes_read, HasReadBytes, HasNewBytes, bytes_written, HasStoredBytes, HasWrittenBytes}
use Rattle.pm3_txn.specs.Knowing.{state_seen}
use Rattle.pm3_txn.specs.ObjectValues.{HasNewValue, Lacks, tail_held}
use Rattle.pm3_txn.specs.PlaceAccess.{HasStored}
use Rattle.pm3_txn.specs.Refusals.{HasObject}
use Rattle.pm3_txn.specs.Owners.{WorksOn, AdvancesOn, IsHolding, KnowsHere, name_here, own_use}
use Rattle.pm3_txn.specs.States.{TxnState, told_in, view_in}
use Rattle.pm3_txn.specs.Touching.{nothing_more}
use Rattle.pm3_txn.specs.Underway.{IsUnderway}
use Rattle.pm3_txn.specs.Works.{Works}
use Rattle.pm3_txn.proofs.Advancing.{advances_both}
use Rattle.pm3_txn.proofs.Keeping.{keeps_same, name_on, objects_both}
use Rattle.pm3_txn.proofs.OwnerAnswers.{holdings_read}

some_map : {S A : Type 0} (f : S → A) (o : Option S) → is_some (option_map f o) ≡ is_some o
some_map f None = refl
some_map f (Some x) = refl

spot_test : (map : Fields) (len k : ℕ) → is_some (spot_by map len (Byte k)) ≡ (has_bytes map.tail && nat_lt k len)
spot_test map len k = of (has_bytes map.tail && nat_lt k len) refl
  where
    of : (b : Bool) → (has_bytes map.tail && nat_lt k len) ≡ b → is_some (spot_by map len (Byte k)) ≡ (has_bytes map.tail && nat_lt k len)
    of true e = rw e refl
    of false e = rw e refl

-- which bytes a tail has follows from the type and the tail's length
pub byte_test : (told : Told) (h : Holding) (a : ℕ) (map : Fields) (len : ℕ) → map_held told.opening.catalog BASE h a ≡ Some map → tail_held h a ≡ Some len
    → (k : ℕ) → has_byte told h a k ≡ (has_bytes map.tail && nat_lt k len)
byte_test told h a map len map_is tail_is k = of (image_in h (page_in BASE a)) refl
  where
    of : (o : Option PageImage) → image_in h (page_in BASE a) ≡ o → has_byte told h a k ≡ (has_bytes map.tail && nat_lt k len)
    of None none = absurd (is_some_none map (sym (ap (λ (o : Option PageImage). map_by told.opening.catalog o (word_in BASE a)) none) ∙ map_is))
    of (Some image) on =
        let at_map : map_at told.opening.catalog image.sheet (word_in BASE a) ≡ Some map = sym (ap (λ (o : Option PageImage). map_by told.opening.catalog o (word_in BASE a)) on) ∙ map_is in
        let at_len : tail_at image.sheet (word_in BASE a) ≡ len =
        one_value (tail_held h a) (tail_at image.sheet (word_in BASE a)) len (ap (λ (o : Option PageImage). option_map (λ (x : PageImage). tail_in (head_at BASE x a)) o) on) tail_is in
        ap (λ (o : Option PageImage). is_some (value_by told.opening.catalog o (word_in BASE a) (Byte k))) on
        ∙ ap (λ (m : Option Fields). is_some (option_map (value_in image.sheet.words (word_in BASE a)) (spot_in m (tail_at image.sheet (word_in BASE a)) (Byte k)))) at_map
        ∙ some_map (value_in image.sheet.words (word_in BASE a)) (spot_by map (tail_at image.sheet (word_in BASE a)) (Byte k))
        ∙ spot_test map (tail_at image.sheet (word_in BASE a)) k
        ∙ ap (λ (n : ℕ). has_bytes map.tail && nat_lt k n) at_len

pub count_below : (b : Bool) (len k : ℕ) → k < (if b then len else 0) → (b && nat_lt k len) ≡ true
count_below true len k low = lt-ltb k len low
count_below false len k low = absurd (omega (arith, low))

pub count_past : (b : Bool) (len k : ℕ) → (if b then len else 0) ≤ k → (b && nat_lt k len) ≡ false
count_past true len k high = le-ltb k len high
count_past false len k high = refl

module _ (told : Told) (h : Holding) (a len from n : ℕ) (below : (k : ℕ) → k < len → has_byte told h a k ≡ true) (past : (k : ℕ) → len ≤ k → has_byte told h a k ≡ false) where
  -- the first byte of a run that isn't there
  pub first_behind : from < len → len < from + n → IsFirstMissing told h a from n len
  first_behind low high = record { within = (omega (arith, low), high); missing = past len (omega arith); before = λ q up down. below q down }

  pub first_of_run : len ≤ from → n ≢ 0 → IsFirstMissing told h a from n from
  first_of_run high some = record { within = (omega arith, omega (arith, some)); missing = past from high; before = λ q up down. absurd (omega (arith, up, down)) }

  -- a run that is there
  pub run_there : from + n ≤ len → HasRun told h a from n
  run_there fits k up down = below k (omega (arith, fits, down))

pub run_empty : (told : Told) (h : Holding) (a from n : ℕ) → n ≡ 0 → HasRun told h a from n
run_empty told h a from n none k up down = absurd (omega (arith, none, up, down))

byte_in_low : (word j : ℕ) → byte_in word j < 256
unfolding byte_in
byte_in_low word j = omega arith

-- what is read of a byte is one
pub byte_low : (catalog : List Fields) (h : Holding) (a k v : ℕ) → value_held catalog BASE h a (Byte k) ≡ Some v → v < 256
byte_low catalog h a k v is = of (image_in h (page_in BASE a)) is
  where
    by_map : (words : List ℕ) (w len : ℕ) (o : Option Fields) → option_map (value_in words w) (spot_in o len (Byte k)) ≡ Some v → v < 256
    by_map words w len None e = absurd (is_some_none v e)
    by_map words w len (Some map) e =
        let same : byte_of (slice_index words (w + 2 + (map.count + k / 8))) (k % 8) ≡ v = (if_spot (value_in words w) (has_bytes map.tail && nat_lt k len) _ v e).1 in
        let low = byte_in_low (slice_index words (w + 2 + (map.count + k / 8))) (k % 8) in
        let is = byte_is (slice_index words (w + 2 + (map.count + k / 8))) (k % 8) (omega arith) in
        subst (λ (n : ℕ). n < 256) (sym is ∙ same) low

    of : (o : Option PageImage) → value_by catalog o (word_in BASE a) (Byte k) ≡ Some v → v < 256
    of None e = absurd (is_some_none v e)
    of (Some image) e = by_map image.sheet.words (word_in BASE a) (tail_at image.sheet (word_in BASE a)) (map_at catalog image.sheet (word_in BASE a)) e

-- an object does not lack a byte that is there
pub byte_not_lacking : (told : Told) (h : Holding) (a k type : ℕ) → Lacks told h a (Byte k) false type → has_byte told h a k ≡ true → ⊥
byte_not_lacking told h a k type lacks there = elim lacks.none [
  | inl none ↦ false≢true (sym (ap is_some none) ∙ there)
  | inr other ↦ false≢true (sym (no_reference (image_in h (page_in BASE a))) ∙ other)
]
  where
    by_map : (o : Option Fields) → refers_by o (Byte k) ≡ false
    by_map None = refl
    by_map (Some map) = refl

    no_reference : (o : Option PageImage) → refers_in told.opening.catalog o (word_in BASE a) (Byte k) ≡ false
    no_reference None = refl
    no_reference (Some image) = by_map (map_at told.opening.catalog image.sheet (word_in BASE a))

-- what a write of a byte leaves: the object, and which bytes there are
pub record StaysObject (told : Told) (h new : Holding) (a : ℕ) : Type 0 where
  pub object : is_object_held BASE new a ≡ is_object_held BASE h a
  pub bytes : (q : ℕ) → has_byte told new a q ≡ has_byte told h a q

-- whether a byte is there follows from the first word of the object
by_head : List Fields → ℕ → ℕ → Bool
by_head catalog q head = is_some (spot_in (slice_get catalog (type_in head)) (tail_in head) (Byte q))

head_decides : (catalog : List Fields) (image : PageImage) (w q : ℕ) → is_some (value_by catalog (Some image) w (Byte q)) ≡ by_head catalog q (slice_index image.sheet.words w)
unfolding by_head
head_decides catalog image w q = some_map (value_in image.sheet.words w) (spot_in (map_at catalog image.sheet w) (tail_at image.sheet w) (Byte q))

head_stays : (words : List ℕ) (w k x : ℕ) → slice_index (set words (w + 2 + k) x) w ≡ slice_index words w
head_stays words w k x = get_or-set_other words (w + 2 + k) w x 0 (λ e. absurd (omega (arith, e)))

pub byte_stays : (told : Told) (h new : Holding) (a : ℕ) (place : Place) (x : ℕ) (is_ref : Bool) → HasNewValue told h new a place is_ref x → StaysObject told h new a
byte_stays told h new a place x is_ref has = of (image_in h (page_in BASE a)) refl
  where
    w : ℕ
    w = word_in BASE a

    written : option_map (changed h (page_in BASE a)) (written_by told.opening.catalog (image_in h (page_in BASE a)) w place x) ≡ Some new
    written = sym (written_is told.opening.catalog BASE h a place x) ∙ has.written

    with_spot : (image : PageImage) → image_in h (page_in BASE a) ≡ Some image → (o : Option _)
        → option_map (changed h (page_in BASE a)) (option_map (λ spot. with_value_in image w spot x) o) ≡ Some new → StaysObject told h new a
    with_spot image on None e = absurd (is_some_none new e)
    with_spot image on (Some spot) e =
        let now : PageImage = with_word_at image (w + 2 + word_of spot) (word_written image.sheet.words w spot x) in
        let same : changed h (page_in BASE a) (with_value_in image w spot x) ≡ new =
        one_value (Some (changed h (page_in BASE a) (with_value_in image w spot x))) (changed h (page_in BASE a) (with_value_in image w spot x)) new refl e in
        let here : image_in new (page_in BASE a) ≡ Some now =
        ap (λ (x : Holding). image_in x (page_in BASE a)) (sym same) ∙ changed_here h (page_in BASE a) image (with_value_in image w spot x) on
        ∙ ap (λ (i : PageImage). Some i) (with_value_is image w spot x) in
        record {
          object = ap (λ (o : Option PageImage). begins_in BASE o a) here ∙ sym (ap (λ (o : Option PageImage). begins_in BASE o a) on);
          bytes = λ q. ap (λ (o : Option PageImage). is_some (value_by told.opening.catalog o w (Byte q))) here
              ∙ head_decides told.opening.catalog now w q
              ∙ ap (by_head told.opening.catalog q) (head_stays image.sheet.words w (word_of spot) (word_written image.sheet.words w spot x))
              ∙ sym (head_decides told.opening.catalog image w q)
              ∙ sym (ap (λ (o : Option PageImage). is_some (value_by told.opening.catalog o w (Byte q))) on);
        }

    of : (o : Option PageImage) → image_in h (page_in BASE a) ≡ o → StaysObject told h new a
    of None none = absurd (is_some_none new (sym (ap (λ (o : Option PageImage). option_map (changed h (page_in BASE a)) (written_by told.opening.catalog o w place x)) none) ∙ written))
    of (Some image) on =
        with_spot image on (spot_at told.opening.catalog image.sheet w place)
        (sym (ap (λ (o : Option PageImage). option_map (changed h (page_in BASE a)) (written_by told.opening.catalog o w place x)) on) ∙ written)

-- bytes that were read are operations
module _ (told : Told) (v : View) (number : ℕ) (h : Holding) (holding : IsHolding told v number h) (a : ℕ) (known : KnowsHere told v h a) (object : is_object_held BASE h a ≡ true) where
  bytes_go : (from : ℕ) (xs : List ℕ) → HasBytes told h a from xs → WorksOn told v h v h (bytes_read told v h a from xs)
  bytes_go from [] has st opens done runs = runs
  bytes_go from (x ∷ xs) has st opens done runs =
      let map = map_of told.opening.catalog BASE (own_use told v h) h a holding.form object in
      let first : value_held told.opening.catalog BASE h a (Byte from) ≡ Some x =
      (let same : from ≡ from + 0 = omega arith in ap (λ (n : ℕ). value_held told.opening.catalog BASE h a (Byte n)) same ∙ has 0 (omega arith)) in
      bytes_go (from + 1) xs
      (λ k low. (let same : from + 1 + k ≡ from + suc k = omega arith in
      ap (λ (n : ℕ). value_held told.opening.catalog BASE h a (Byte n)) same ∙ has (suc k) (omega (arith, low))))
      st opens (with_step done (operation.Byte (name_here told v h st a) from) x) ((holdings_read told v number h a x map.0 (Byte from) holding known object map.1 first).0 st opens done runs)

  pub bytes_advance : (from : ℕ) (xs : List ℕ) → HasBytes told h a from xs → AdvancesOn told v h v h (bytes_read told v h a from xs)
  bytes_advance from xs has = record { works = bytes_go from xs has; keeps = (keeps_same told v v h refl).objects }

-- one byte more was written
new_more : (told : Told) (a : ℕ) (old mid new : Holding) (from : ℕ) (xs : List ℕ) (x : ℕ) → HasNewBytes told old mid a from xs → HasNewValue told mid new a (Byte (from + length xs)) false x
    → HasNewBytes told old new a from (xs ++ x ∷ [])
new_more told a old mid new from [] x has last =
    (new, subst (λ (h : Holding). HasNewValue told h new a (Byte from) false x) has (let same : from + 0 ≡ from = omega arith in subst (λ (n : ℕ). HasNewValue told mid new a (Byte n) false x) same last), refl)
new_more told a old mid new from (y ∷ ys) x has last = (
  has.0,
  has.1,
  new_more told a has.0 mid new (from + 1) ys x has.2
      (let same : from + suc (length ys) ≡ from + 1 + length ys = omega arith in subst (λ (n : ℕ). HasNewValue told mid new a (Byte n) false x) same last),
)

-- it is the last operation
written_more : (told : Told) (v : View) (h : Holding) (a from : ℕ) (xs : List ℕ) (x : ℕ) (st : State) (done : List (Op × ℕ))
    → with_step (bytes_written told v h a from xs st done) (operation.SetByte (name_here told v h st a) (from + length xs) x) 0 ≡ bytes_written told v h a from (xs ++ x ∷ []) st done
written_more told v h a from [] x st done = (let same : from + 0 ≡ from = omega arith in ap (λ (n : ℕ). with_step done (operation.SetByte (name_here told v h st a) n x) 0) same)
written_more told v h a from (y ∷ ys) x st done =
    let same : from + suc (length ys) ≡ from + 1 + length ys = omega arith in
    ap (λ (n : ℕ). with_step (bytes_written told v h a (from + 1) ys st (with_step done (operation.SetByte (name_here told v h st a) from y) 0)) (operation.SetByte (name_here told v h st a) n x) 0) same
    ∙ written_more told v h a (from + 1) ys x st (with_step done (operation.SetByte (name_here told v h st a) from y) 0)

module _ {R : Type 0} where
  pub stored_none : (t : TxnState R) (a from : ℕ) → HasStoredBytes t t a from []
  stored_none t a from = record { rest = refl; bytes = refl; goes_on = record { works = λ st opens done works. works; keeps = (keeps_same (told_in t) (view_in t) (view_in t) t.held refl).objects } }

  stored_both : (old new : TxnState R) (a from k x : ℕ) (xs : List ℕ) → length xs ≡ k → KnowsHere (told_in old) (view_in old) old.held a → (h : Holding) → HasNewBytes (told_in old) old.held h a from xs
      → AdvancesOn (told_in old) (view_in old) old.held (view_in old) h (bytes_written (told_in old) (view_in old) old.held a from xs)
      → HasStored (record old { held = h }) new a (Byte (from + k)) false x → HasStoredBytes old new a from (xs ++ x ∷ [])
  stored_both old new a from k x xs long known h bytes goes stored = record {
    rest = stored.rest;
    bytes = new_more (told_in old) a old.held h new.held from xs x bytes
        (subst (λ (n : ℕ). HasNewValue (told_in old) h new.held a (Byte (from + n)) false x) (sym long) stored.value);
    goes_on = record {
      works = λ st opens done works. subst (Works (told_in old).opening.catalog (told_in old).pages (state_seen (told_in old) (view_in new) st) new.held) (more st opens done)
          (stored.goes_on.works st opens (bytes_written (told_in old) (view_in old) old.held a from xs st done) (goes.works st opens done works));
      keeps = objects_both (told_in old) (view_in old) (view_in old) (view_in new) old.held h new.held goes.keeps stored.goes_on.keeps;
    };
  }
    where
      more : (st : State) → Opens BASE (told_in old).pages (told_in old).opening st → (done : List (Op × ℕ))
          → with_step (bytes_written (told_in old) (view_in old) old.held a from xs st done) (operation.SetByte (name_here (told_in old) (view_in old) h st a) (from + k) x) 0
          ≡ bytes_written (told_in old) (view_in old) old.held a from (xs ++ x ∷ []) st done
      more st opens done =
          let same = name_on (told_in old) (view_in old) (view_in old) old.held h goes.keeps a known st opens in
          (λ i. with_step (bytes_written (told_in old) (view_in old) old.held a from xs st done) (operation.SetByte (same i) (from + sym long i) x) 0)
          ∙ written_more (told_in old) (view_in old) old.held a from xs x st done

  pub stored_more : (old mid new : TxnState R) (a from k x : ℕ) (xs : List ℕ) → length xs ≡ k → KnowsHere (told_in old) (view_in old) old.held a → HasStoredBytes old mid a from xs
      → HasStored mid new a (Byte (from + k)) false x → HasStoredBytes old new a from (xs ++ x ∷ [])
  stored_more old mid new a from k x xs long known run stored =
      stored_both old new a from k x xs long known mid.held run.bytes
      (subst (λ (t : TxnState R). AdvancesOn (told_in old) (view_in old) old.held (view_in t) mid.held (bytes_written (told_in old) (view_in old) old.held a from xs)) run.rest run.goes_on)
      (subst (λ (t : TxnState R). HasStored t new a (Byte (from + k)) false x) run.rest stored)

  -- one byte more of a list was written
  pub store_step : (old mid new : TxnState R) (a from k x : ℕ) (bytes : List ℕ) → k < length bytes → get_or bytes k 0 ≡ x → KnowsHere (told_in old) (view_in old) old.held a → HasStoredBytes old mid a from (take k bytes)
      → HasStored mid new a (Byte (from + k)) false x → HasStoredBytes old new a from (take (k + 1) bytes) × StaysObject (told_in old) mid.held new.held a
  store_step old mid new a from k x bytes low is known run stored = (
    subst (HasStoredBytes old new a from) (sym (take_more bytes k 0 low ∙ ap (λ (n : ℕ). take k bytes ++ n ∷ []) is))
        (stored_more old mid new a from k x (take k bytes) (length-take-le k bytes (omega (arith, low))) known run stored),
    byte_stays (told_in old) mid.held new.held a (Byte (from + k)) x false
        (subst (λ (t : Told). HasNewValue t mid.held new.held a (Byte (from + k)) false x) (ap (λ (t : TxnState R). told_in t) run.rest) stored.value),
  )

  -- bytes of the object to which a place of the row leads
  pub bytes_here : (content : R → Option (List ℕ)) (old new : TxnState R) (i a from : ℕ) (xs : List ℕ) → IsUnderway content new → HasObject old new i a → HasBytes (told_in new) new.held a from xs
      → HasReadBytes old new i from xs
  bytes_here content old new i a from xs underway object has = record {
    address = a;
    object = object;
    bytes = has;
    goes_on = advances_both old new new nothing_more (bytes_read (told_in new) (view_in new) new.held a from xs) object.touched.same.heap object.touched.goes_on
        (bytes_advance (told_in new) (view_in new) new.mutator.space new.held underway.holding a object.known object.object from xs has);
  }

  pub bytes_stored : (old mid new : TxnState R) (i a from : ℕ) (xs : List ℕ) → HasObject old mid i a → HasStoredBytes mid new a from xs → HasWrittenBytes old new i from xs
  bytes_stored old mid new i a from xs object stored = record {
    mid = mid;
    address = a;
    object = object;
    stored = stored;
    goes_on = advances_both old mid new nothing_more (bytes_written (told_in mid) (view_in mid) mid.held a from xs) object.touched.same.heap object.touched.goes_on stored.goes_on;
  }
