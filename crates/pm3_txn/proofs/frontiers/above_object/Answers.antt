use Rattle.std.proofs.Common.{◌≡◌, ◌+◌, ◌*◌, ℕ, true, ap, sym, ◌∙◌, subst}
use Rattle.pm3_types.specs.Layout.{PageImage}
use Rattle.pm3_core.specs.declared.naming.TheConstants.{BASE}
use Rattle.pm3_types.specs.Layout.{word_in, is_start, address, begins_at}
use Rattle.pm3_types.specs.Whole.{IsWhole}
use Rattle.pm3_types.proofs.Addressing.{word_in-address}
use Rattle.pm3_txn.specs.Frontiers.{IsTop, IsObjectNamed}
use Rattle.pm3_txn.proofs.Named.{begins_is, no_object}
use Rattle.pm3_txn.proofs.frontiers.above_object.Goals as goal

at_is : (page q word w : ℕ) → q ≡ page → w ≡ word → (BASE + 4096 * q) + 8 * w ≡ address BASE page word
at_is page q word w same here = λ i. (BASE + 4096 * same i) + 8 * here i

pub returns-then-not-is_object : goal.returns-then-not-is_object
returns-then-not-is_object c =
    let image : PageImage = c.args.image.now in
    let where_is = at_is image.page c.from.result c.args.word c.from-2.result (c.from.ensures ∙ c.page.ensures.page) c.from-2.ensures in
    no_object c.args.catalog.now image.sheet c.args.word c.args.least
    (sym (begins_is BASE image c.args.word c.requires.low) ∙ ap (λ (a : ℕ). begins_at BASE image a) (sym where_is) ∙ sym c.is_object.ensures ∙ c.if-not-is_object.true)

pub above_fields-requires-clause-whole : goal.above_fields-requires-clause-whole
above_fields-requires-clause-whole c =
    let image : PageImage = c.args.image.now in
    let where_is = at_is image.page c.from.result c.args.word c.from-2.result (c.from.ensures ∙ c.page.ensures.page) c.from-2.ensures in
    let begins : is_start image.sheet c.args.word ≡ true =
    sym (begins_is BASE image c.args.word c.requires.low) ∙ ap (λ (a : ℕ). begins_at BASE image a) (sym where_is) ∙ sym c.is_object.ensures ∙ c.if-not-is_object.false
    in
    subst (λ (s : ℕ). IsWhole c.args.catalog.now image.sheet s) (sym (ap (word_in BASE) where_is ∙ word_in-address BASE image.page c.args.word c.requires.low)) (c.requires.whole begins)

pub returns : goal.returns
returns c =
    let image : PageImage = c.args.image.now in
    let where_is = at_is image.page c.from.result c.args.word c.from-2.result (c.from.ensures ∙ c.page.ensures.page) c.from-2.ensures in
    subst (λ (s : ℕ). IsTop (IsObjectNamed c.args.catalog.now image.sheet s) c.args.least c.above_fields.result)
    (ap (word_in BASE) where_is ∙ word_in-address BASE image.page c.args.word c.requires.low) c.above_fields.ensures
