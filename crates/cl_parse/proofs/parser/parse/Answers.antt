use Rattle.std.proofs.Common.{◌≡◌, ◌<◌, ◌≤◌, length, [], ℕ, ◌-◌, Bool, true, false, List, sym, ap, ◌∙◌, subst, arith}
use Rattle.std.specs.Prelude.{nat_le}
use Rattle.std.proofs.lemmas.Bool.Decides.{nat_tests}
use Rattle.cl_token.specs.declared.token.Token.{Token}
use Rattle.cl_tree.specs.declared.terminal.Leaf.{Leaf}
use Rattle.cl_tree.specs.Leaves.{leaves_of}
use Rattle.cl_tree.specs.Syntax.{Syntax, view, nesting}
use Rattle.cl_tree.specs.Grammar.{SpellsUnit}
use Rattle.cl_read.specs.declared.cursor.Fail.{Fail}
use Rattle.cl_read.specs.declared.cursor.Fail.TheVariants as fails
use Rattle.cl_read.specs.Gives.{Fails}
use Rattle.cl_read.specs.Reading.{Out, unit_of, Got, Wrong, Deep}
use Rattle.cl_read.proofs.CompleteUnit.{unit_reads}
use Rattle.cl_read.proofs.WholeUnit.{found, no_unit, no_unit_within, least_place, wrong_left, deep_left, too_deep}
use Rattle.cl_read.proofs.WholeUnit.{deeper_unit, too_deep_unit}
use Rattle.cl_parse.proofs.parser.parse.Goals as goal

-- what the unit is, at the tokens themselves
at_tokens : (items seen : List Leaf) (tokens : List Token) (o : Out Syntax) → unit_of 251 seen ≡ o → seen ≡ items →
    items ≡ leaves_of 0 tokens → unit_of 251 (leaves_of 0 tokens) ≡ o
at_tokens items seen tokens o e a b = sym (ap (unit_of 251) (a ∙ b)) ∙ e

wrong_at : (items seen : List Leaf) (tokens : List Token) (e : Fail) (left : ℕ) → e ≡ fails.Syntax left →
    Fails e (unit_of 251 seen) → seen ≡ items → items ≡ leaves_of 0 tokens →
    unit_of 251 (leaves_of 0 tokens) ≡ Wrong left
wrong_at items seen tokens e left q f a b =
    at_tokens items seen tokens (Wrong left) (subst (λ x. Fails x (unit_of 251 seen)) q f) a b

deep_at : (items seen : List Leaf) (tokens : List Token) (e : Fail) (left : ℕ) → e ≡ fails.Nesting left →
    Fails e (unit_of 251 seen) → seen ≡ items → items ≡ leaves_of 0 tokens →
    unit_of 251 (leaves_of 0 tokens) ≡ Deep left
deep_at items seen tokens e left q f a b =
    at_tokens items seen tokens (Deep left) (subst (λ x. Fails x (unit_of 251 seen)) q f) a b

not_wrong : (tokens : List Token) (left : ℕ) → unit_of 251 (leaves_of 0 tokens) ≡ Wrong left → (t : Syntax) →
    SpellsUnit t tokens → nesting t ≤ 256 → ⊥
not_wrong tokens left e t h d = let r : unit_of 251 (leaves_of 0 tokens) ≡ Got t [] =
    unit_reads 251 t (leaves_of 0 tokens) h d in cc

not_deep : (tokens : List Token) (left : ℕ) → unit_of 251 (leaves_of 0 tokens) ≡ Deep left → (t : Syntax) →
    SpellsUnit t tokens → nesting t ≤ 256 → ⊥
not_deep tokens left e t h d = let r : unit_of 251 (leaves_of 0 tokens) ≡ Got t [] =
    unit_reads 251 t (leaves_of 0 tokens) h d in cc

is_deeper : (n : ℕ) (b : Bool) → b ≡ nat_le n 256 → b ≡ false → 256 < n
is_deeper n b h e = let f : nat_le n 256 ≡ false = sym h ∙ e in grind (arith, nat_tests)

is_within : (n : ℕ) (b : Bool) → b ≡ nat_le n 256 → b ≡ true → n ≤ 256
is_within n b h e = let f : nat_le n 256 ≡ true = sym h ∙ e in grind (arith, nat_tests)

-- what is left behind a unit
is_it_rest : (tokens : List Token) (u : Syntax) (rest : List Leaf) → unit_of 251 (leaves_of 0 tokens) ≡ Got u rest →
    (t : Syntax) → SpellsUnit t tokens → nesting t ≤ 256 → u ≡ t
is_it_rest tokens u rest e t h d = let r : unit_of 251 (leaves_of 0 tokens) ≡ Got t [] =
    unit_reads 251 t (leaves_of 0 tokens) h d in cc

pub overflow_sub-result : goal.overflow_sub-result
overflow_sub-result c = wrong_left 251 c.args.tokens.now c.in-Err-Syntax.left
    (wrong_at c.in_ok-items.items.items c.deref.result.now c.args.tokens.now c.in-Err-Syntax.field-0
    c.in-Err-Syntax.left c.in-Err-Syntax.field-0-is c.in-Err-Syntax.ensures c.deref.ensures.value
    c.in_ok-items.ensures)

pub overflow_sub-result-in-Err-Nesting : goal.overflow_sub-result-in-Err-Nesting
overflow_sub-result-in-Err-Nesting c =
    deep_left 251 c.args.tokens.now c.in-Err-Nesting.behind (deep_at c.in_ok-items.items.items c.deref.result.now
    c.args.tokens.now c.in-Err-Nesting.field-0 c.in-Err-Nesting.behind c.in-Err-Nesting.field-0-is
    c.in-Err-Nesting.ensures c.deref.ensures.value c.in_ok-items.ensures)

pub returns-then-not-fits-clause-only : goal.returns-then-not-fits-clause-only
returns-then-not-fits-clause-only c t h d =
    let e = is_it_rest c.args.tokens.now (view c.in-Ok.node.tree) c.in-Ok.field-0-1.now
    (at_tokens c.in_ok-items.items.items c.deref.result.now c.args.tokens.now
    (Got (view c.in-Ok.node.tree) c.in-Ok.field-0-1.now) c.in-Ok.ensures c.deref.ensures.value
    c.in_ok-items.ensures) t h d in
    let lt : 256 < nesting (view c.in-Ok.node.tree) =
    is_deeper (nesting (view c.in-Ok.node.tree)) c.fits.result c.fits.ensures c.if-not-fits.true in
    let same : nesting (view c.in-Ok.node.tree) ≡ nesting t = ap nesting e in
    omega arith

pub returns-then-not-fits-clause-nesting : goal.returns-then-not-fits-clause-nesting
returns-then-not-fits-clause-nesting c =
    too_deep 251 c.args.tokens.now c.in-Ok.field-0-1.now (view c.in-Ok.node.tree)
    (at_tokens c.in_ok-items.items.items c.deref.result.now c.args.tokens.now
    (Got (view c.in-Ok.node.tree) c.in-Ok.field-0-1.now) c.in-Ok.ensures c.deref.ensures.value
    c.in_ok-items.ensures) 256
    (is_deeper (nesting (view c.in-Ok.node.tree)) c.fits.result c.fits.ensures c.if-not-fits.true)

pub returns-in-Ok-clause-found : goal.returns-in-Ok-clause-found
returns-in-Ok-clause-found c =
    let spelled : SpellsUnit (view c.in-Ok.node.tree) c.args.tokens.now =
    found 251 c.args.tokens.now c.in-Ok.field-0-1.now (view c.in-Ok.node.tree)
    (at_tokens c.in_ok-items.items.items c.deref.result.now c.args.tokens.now
    (Got (view c.in-Ok.node.tree) c.in-Ok.field-0-1.now) c.in-Ok.ensures c.deref.ensures.value
    c.in_ok-items.ensures) in
    (spelled, is_within (nesting (view c.in-Ok.node.tree)) c.fits.result c.fits.ensures c.if-not-fits.false)

pub returns-in-Ok-clause-only : goal.returns-in-Ok-clause-only
returns-in-Ok-clause-only c =
    let only = is_it_rest c.args.tokens.now (view c.in-Ok.node.tree) c.in-Ok.field-0-1.now
    (at_tokens c.in_ok-items.items.items c.deref.result.now c.args.tokens.now
    (Got (view c.in-Ok.node.tree) c.in-Ok.field-0-1.now) c.in-Ok.ensures c.deref.ensures.value
    c.in_ok-items.ensures) in
    only

pub returns-in-Err-Syntax-clause-only : goal.returns-in-Err-Syntax-clause-only
returns-in-Err-Syntax-clause-only c t h d =
    not_wrong c.args.tokens.now c.in-Err-Syntax.left (wrong_at c.in_ok-items.items.items c.deref.result.now
    c.args.tokens.now c.in-Err-Syntax.field-0 c.in-Err-Syntax.left c.in-Err-Syntax.field-0-is
    c.in-Err-Syntax.ensures c.deref.ensures.value c.in_ok-items.ensures) t h d

pub returns-in-Err-Syntax-clause-syntax : goal.returns-in-Err-Syntax-clause-syntax
returns-in-Err-Syntax-clause-syntax c =
    let w = wrong_at c.in_ok-items.items.items c.deref.result.now c.args.tokens.now c.in-Err-Syntax.field-0
    c.in-Err-Syntax.left c.in-Err-Syntax.field-0-is c.in-Err-Syntax.ensures c.deref.ensures.value
    c.in_ok-items.ensures in
    let le : c.in-Err-Syntax.left ≤ length c.args.tokens.now =
    wrong_left 251 c.args.tokens.now c.in-Err-Syntax.left w in
    no_unit 251 c.args.tokens.now (length c.args.tokens.now - c.in-Err-Syntax.left) c.in-Err-Syntax.left w (omega arith)

pub returns-in-Err-Syntax-clause-least : goal.returns-in-Err-Syntax-clause-least
returns-in-Err-Syntax-clause-least c =
    let w = wrong_at c.in_ok-items.items.items c.deref.result.now c.args.tokens.now c.in-Err-Syntax.field-0
    c.in-Err-Syntax.left c.in-Err-Syntax.field-0-is c.in-Err-Syntax.ensures c.deref.ensures.value
    c.in_ok-items.ensures in
    let le : c.in-Err-Syntax.left ≤ length c.args.tokens.now =
    wrong_left 251 c.args.tokens.now c.in-Err-Syntax.left w in
    least_place 251 c.args.tokens.now (length c.args.tokens.now - c.in-Err-Syntax.left) c.in-Err-Syntax.left w
    (omega arith)

pub returns-clause-only : goal.returns-clause-only
returns-clause-only c t h d = not_deep c.args.tokens.now c.in-Err-Nesting.behind
    (deep_at c.in_ok-items.items.items c.deref.result.now c.args.tokens.now c.in-Err-Nesting.field-0
    c.in-Err-Nesting.behind c.in-Err-Nesting.field-0-is c.in-Err-Nesting.ensures c.deref.ensures.value
    c.in_ok-items.ensures) t h d

pub returns-clause-nesting : goal.returns-clause-nesting
returns-clause-nesting c =
    let w = deep_at c.in_ok-items.items.items c.deref.result.now c.args.tokens.now c.in-Err-Nesting.field-0
    c.in-Err-Nesting.behind c.in-Err-Nesting.field-0-is c.in-Err-Nesting.ensures c.deref.ensures.value
    c.in_ok-items.ensures in
    let le : c.in-Err-Nesting.behind ≤ length c.args.tokens.now =
    deep_left 251 c.args.tokens.now c.in-Err-Nesting.behind w in
    no_unit_within 251 c.args.tokens.now (length c.args.tokens.now - c.in-Err-Nesting.behind) c.in-Err-Nesting.behind
    w (omega arith)

pub returns-then-not-fits-clause-deeper : goal.returns-then-not-fits-clause-deeper
returns-then-not-fits-clause-deeper c =
    too_deep_unit 251 c.args.tokens.now c.in-Ok.field-0-1.now (view c.in-Ok.node.tree)
    (at_tokens c.in_ok-items.items.items c.deref.result.now c.args.tokens.now
    (Got (view c.in-Ok.node.tree) c.in-Ok.field-0-1.now) c.in-Ok.ensures c.deref.ensures.value
    c.in_ok-items.ensures) 256
    (is_deeper (nesting (view c.in-Ok.node.tree)) c.fits.result c.fits.ensures c.if-not-fits.true)

pub returns-clause-deeper : goal.returns-clause-deeper
returns-clause-deeper c =
    let w = deep_at c.in_ok-items.items.items c.deref.result.now c.args.tokens.now c.in-Err-Nesting.field-0
    c.in-Err-Nesting.behind c.in-Err-Nesting.field-0-is c.in-Err-Nesting.ensures c.deref.ensures.value
    c.in_ok-items.ensures in
    let le : c.in-Err-Nesting.behind ≤ length c.args.tokens.now =
    deep_left 251 c.args.tokens.now c.in-Err-Nesting.behind w in
    deeper_unit 251 c.args.tokens.now (length c.args.tokens.now - c.in-Err-Nesting.behind) c.in-Err-Nesting.behind w
    (omega arith)
