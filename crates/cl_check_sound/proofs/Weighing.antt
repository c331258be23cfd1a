-- What statements stand for holds no more nodes, sites and calls than their trees: a sum over each, with any weights.
use Rattle.std.proofs.Common.{◌≡◌, ℕ, ◌+◌, ◌*◌, ◌≤◌, ℤ, nat_eq, List, [], length, Option, None, Some, Bool, true}
use Rattle.std.proofs.Common.{false, if◌then◌else◌, refl, ap, sym, ◌∙◌, subst, inl, inr, ◌⊎◌, arith}
use Rattle.wg_num.specs.declared.types.IntType.{IntType}
use Rattle.wg_num.specs.declared.types.Place.{Place}
use Rattle.cl_model.specs.declared.program.Space.{Space}
use Rattle.cl_model.specs.declared.program.Space.TheVariants as spaces
use Rattle.cl_model.specs.Tree.{Expression, Statement, Statements, Arms, Do, Declare, Fill, Block, If, Loop, Switch}
use Rattle.cl_model.specs.Tree.{Break, Continue, Return, Barrier, empty, also, no_arm, arm}
use Rattle.cl_tree.specs.declared.tree.Form.TheVariants as forms
use Rattle.cl_tree.specs.Syntax.{Syntax, node, Forest, none, more, last_of}
use Rattle.cl_meaning.specs.Constants.{constant_of}
use Rattle.cl_meaning.specs.declared.types.Declared.{Declared}
use Rattle.cl_meaning.specs.declared.kind.Kind.{Kind}
use Rattle.cl_meaning.specs.declared.kind.Meaning.{Meaning}
use Rattle.cl_meaning.specs.declared.kind.Meaning.TheVariants as meanings
use Rattle.cl_meaning.specs.declared.kind.Role.{Role}
use Rattle.cl_meaning.specs.declared.kind.Role.TheVariants as roles
use Rattle.cl_meaning.specs.Environment.{Env, place_of}
use Rattle.cl_meaning.specs.Declarations.{Declarator, declarator_in, kept_in}
use Rattle.cl_meaning.specs.Visible.{inside, later, restored, behind, kind_of, opened, apart, in_block, in_loop}
use Rattle.cl_meaning.specs.Visible.{in_switch, with_label, behind_value}
use Rattle.cl_meaning.specs.Faults.{Asked}
use Rattle.cl_meaning.specs.Typed.{What, nothing, target, values, labelled, variable, element, Piece, Built}
use Rattle.cl_meaning.specs.Expressions.{made, read, operand, expressions}
use Rattle.cl_meaning.specs.Statements.{alone, followed, body_of, lines_of, all_lines, last_piece, set_value, initial}
use Rattle.cl_meaning.specs.Statements.{list_values, array_made, scalar_made, declarator_made, arms_of, labelled_by}
use Rattle.cl_meaning.specs.Statements.{list_made}
use Rattle.cl_meaning.specs.Meant.{MadeParts, meant, parts_meant, make}
use Rattle.cl_check_sound.specs.Shape.{IsType, IsExpression, AreExpressions, IsList, AreLengths, IsDeclarator}
use Rattle.cl_check_sound.specs.Shape.{AreDeclarators, IsDeclaration}
use Rattle.cl_check_sound.specs.Sound.{SoundTree, SoundParts}
use Rattle.cl_check_sound.proofs.Plain.{parts_here}
use Rattle.cl_check_sound.proofs.Measure.{Weights, measure, measures, Free}
use Rattle.cl_check_sound.proofs.Small.{held, held_more, Small, MeaningFree, AllFree, room, operands_small}
use Rattle.cl_check_sound.proofs.Measure.{operand_small}
use Rattle.cl_check_sound.proofs.Holding.{extra, extras, extras_here, holds, all_hold}
use Rattle.cl_check_sound.proofs.Grown.{is_deep, deep_outer}
use Rattle.cl_check_sound.proofs.Growth.{declarator_visible, expression_leaves, type_next, next_declarator}
use Rattle.cl_check_sound.proofs.Growth.{one_declarator_grows}
use Rattle.cl_check_sound.proofs.Declarators.{Leaves, expressions_neutral, declarator_neutral, meant_here}
use Rattle.cl_check_sound.proofs.Declarators.{list_meant_here, declare_meant}
use Rattle.cl_check_sound.proofs.Arms.{bodies, arms_sum}
use Rattle.cl_check_sound.proofs.Parts.{built_of, at_labels, on_labels, case_env, default_env, typed_env, declare_built}
use Rattle.cl_check_sound.proofs.Parts.{declare_sound}

-- ---- what a statement holds

abbrev pub measure_optional : Weights → Option Expression → ℕ
measure_optional m None = 0
measure_optional m (Some e) = measure m e

abbrev mutual
  pub weigh : Weights → Statement → ℕ
  weigh m (Do e) = m.plain + measure m e
  weigh m (Declare x v) = m.plain + measure_optional m v
  weigh m (Fill site a vs) = (m.plain + m.own site) + measures m vs
  weigh m (Block l) = m.plain + weigh_all m l
  weigh m (If site c a b) = (m.plain + m.own site) + (measure m c + (weigh_all m a + weigh_all m b))
  weigh m (Loop site z c e b) = (m.plain + m.own site) + (measure_optional m c + (measure_optional m e + weigh m b))
  weigh m (Switch site v as') = (m.plain + m.own site) + (measure m v + weigh_arms m as')
  weigh m (Break site) = m.plain + m.own site
  weigh m (Continue site) = m.plain + m.own site
  weigh m (Return site v) = (m.plain + m.own site) + measure_optional m v
  weigh m (Barrier site) = m.plain + m.own site

  pub weigh_all : Weights → Statements → ℕ
  weigh_all m empty = 0
  weigh_all m (also s rest) = weigh m s + weigh_all m rest

  pub weigh_arms : Weights → Arms → ℕ
  weigh_arms m no_arm = 0
  weigh_arms m (arm ls o b rest) = weigh_all m b + weigh_arms m rest

pub weigh_followed : (m : Weights) (a b : Statements) → weigh_all m (followed a b) ≡ weigh_all m a + weigh_all m b
weigh_followed m empty b = omega arith
weigh_followed m (also s a) b = let e = weigh_followed m a b in omega arith

first_weighed : (m : Weights) (s : Statement) (r : Statements) →
    weigh_all m (also s r) ≡ weigh_all m (alone s) + weigh_all m r
first_weighed m s r = omega arith

pub arms_weighed : (m : Weights) (ps : List Piece) → weigh_arms m (arms_of ps) ≡ weigh_all m (bodies ps)
arms_weighed m ps =
    arms_sum (weigh_all m) (weigh_arms m) refl (first_weighed m) (weigh_followed m) refl (λ ls o b r. refl) ps

pub one_by : (ls : List ℤ) (o : Bool) (w : What) → lines_of (labelled_by ls o w) ≡ alone (body_of (labelled_by ls o w))
one_by ls o (labelled ls' o' s) = refl
one_by ls o w = refl

-- a statement with four nodes more
pub record Weighed (m : Weights) (before : ℕ) (w : What) (after : ℕ) : Type 0 where
  pub bound : weigh m (body_of w) + (before + 4 * m.plain) ≤ after
  pub one : lines_of w ≡ alone (body_of w)

-- where no variable weighs more than its node
pub free_of : (m : Weights) → ((x : ℕ) → m.named x ≡ 0) → (env : Env) → AllFree m env
free_of m z env q n e = by n
  where
    by : (n : Meaning) → MeaningFree m n
    by (meanings.Scalar t c x) = z x
    by (meanings.Pointer s e c r fixed x) = z x
    by (meanings.Object s e c r) = tt
    by (meanings.Array s e c r i) = tt
    by (meanings.Function n) = tt
    by meanings.Undefined = tt
    by meanings.Kernel = tt

-- ---- what a tree allows

pub if_extra : (m : Weights) (k : ℕ) (env : Env) (w : List ℕ) (f l : ℕ) (c a : Syntax) → IsExpression c →
    extra m k env (node forms.IfNode w f l (more c (more a none))) ≡
    (extra m k (apart env) c + (extra m k (apart env) a + 0)) + (0 + 16 * m.plain)
unfolding inside later
if_extra m k env w f l c a h =
    ap (λ z. (extra m k (apart env) c + (extra m k z a + 0)) + (0 + 16 * m.plain)) (expression_leaves (apart env) c h)

pub while_extra : (m : Weights) (k : ℕ) (env : Env) (w : List ℕ) (f l : ℕ) (c a : Syntax) → IsExpression c →
    extra m k env (node forms.WhileNode w f l (more c (more a none))) ≡
    (extra m k (in_loop env) c + (extra m k (in_loop env) a + 0)) + (0 + 16 * m.plain)
unfolding inside later
while_extra m k env w f l c a h =
    ap (λ z. (extra m k (in_loop env) c + (extra m k z a + 0)) + (0 + 16 * m.plain))
    (expression_leaves (in_loop env) c h)

pub else_extra : (m : Weights) (k : ℕ) (env : Env) (w : List ℕ) (f l : ℕ) (c a b : Syntax) → IsExpression c →
    extra m k env (node forms.IfNode w f l (more c (more a (more b none)))) ≡
    (extra m k (apart env) c + (extra m k (apart env) a + (extra m k (behind (apart env) a) b + 0))) +
    (0 + 16 * m.plain)
unfolding inside later
else_extra m k env w f l c a b h =
    ap (λ z. (extra m k (apart env) c + (extra m k z a + (extra m k (behind z a) b + 0))) + (0 + 16 * m.plain))
    (expression_leaves (apart env) c h)

pub do_extra : (m : Weights) (k : ℕ) (env : Env) (w : List ℕ) (f l : ℕ) (a c : Syntax) →
    extra m k env (node forms.DoNode w f l (more a (more c none))) ≡
    (extra m k (in_loop env) a + (extra m k (behind (in_loop env) a) c + 0)) + (0 + 16 * m.plain)
unfolding inside later
do_extra m k env w f l a c = refl

pub for_extra : (m : Weights) (k : ℕ) (env : Env) (w : List ℕ) (f l : ℕ) (d a : Syntax) →
    extra m k env (node forms.ForNode w f l (more d (more a none))) ≡
    (extra m k (opened (in_loop env)) d + (extra m k (behind (opened (in_loop env)) d) a + 0)) + (0 + 16 * m.plain)
unfolding inside later
for_extra m k env w f l d a = refl

pub for1_extra : (m : Weights) (k : ℕ) (env : Env) (w : List ℕ) (f l : ℕ) (d e a : Syntax) → IsExpression e →
    extra m k env (node forms.ForNode w f l (more d (more e (more a none)))) ≡
    (extra m k (opened (in_loop env)) d + (extra m k (behind (opened (in_loop env)) d) e +
    (extra m k (behind (opened (in_loop env)) d) a + 0))) + (0 + 16 * m.plain)
unfolding inside later
for1_extra m k env w f l d e a h =
    ap (λ z. (extra m k (opened (in_loop env)) d + (extra m k (behind (opened (in_loop env)) d) e +
    (extra m k z a + 0))) + (0 + 16 * m.plain)) (expression_leaves (behind (opened (in_loop env)) d) e h)

pub for2_extra : (m : Weights) (k : ℕ) (env : Env) (w : List ℕ) (f l : ℕ) (d c e a : Syntax) → IsExpression c →
    IsExpression e → extra m k env (node forms.ForNode w f l (more d (more c (more e (more a none))))) ≡
    (extra m k (opened (in_loop env)) d + (extra m k (behind (opened (in_loop env)) d) c +
    (extra m k (behind (opened (in_loop env)) d) e + (extra m k (behind (opened (in_loop env)) d) a + 0)))) +
    (0 + 16 * m.plain)
unfolding inside later
for2_extra m k env w f l d c e a h g =
    ap (λ z. (extra m k (opened (in_loop env)) d + (extra m k (behind (opened (in_loop env)) d) c +
    (extra m k z e + (extra m k (behind z e) a + 0)))) + (0 + 16 * m.plain))
    (expression_leaves (behind (opened (in_loop env)) d) c h) ∙
    ap (λ z. (extra m k (opened (in_loop env)) d + (extra m k (behind (opened (in_loop env)) d) c +
    (extra m k (behind (opened (in_loop env)) d) e + (extra m k z a + 0)))) + (0 + 16 * m.plain))
    (expression_leaves (behind (opened (in_loop env)) d) e g)

pub switch_extra : (m : Weights) (k : ℕ) (env : Env) (w : List ℕ) (f l : ℕ) (v : Syntax) (ss : Forest) →
    IsExpression v → extra m k env (node forms.SwitchNode w f l (more v ss)) ≡
    (extra m k (in_switch env) v + extras m k (at_labels env v) forms.SwitchNode false ss) + (0 + 16 * m.plain)
unfolding inside later
switch_extra m k env w f l v ss h =
    ap (λ (z : Env). (extra m k (in_switch env) v + extras m k (behind_value z z.labels (kind_of (in_switch env) v))
    forms.SwitchNode false ss) + (0 + 16 * m.plain)) (expression_leaves (in_switch env) v h)

pub case_extra : (m : Weights) (k : ℕ) (env : Env) (w : List ℕ) (f l : ℕ) (v a : Syntax) → IsExpression v →
    extra m k env (node forms.CaseNode w f l (more v (more a none))) ≡
    (extra m k env v + (extra m k (case_env env v) a + 0)) + (0 + 16 * m.plain)
unfolding inside later
case_extra m k env w f l v a h =
    ap (λ (z : Env). (extra m k env v + (extra m k (record z { labels = with_label z.labels (constant_of v) }) a + 0))
    + (0 + 16 * m.plain)) (expression_leaves env v h)

pub default_extra : (m : Weights) (k : ℕ) (env : Env) (w : List ℕ) (f l : ℕ) (a : Syntax) →
    extra m k env (node forms.DefaultNode w f l (more a none)) ≡ (extra m k (default_env env) a + 0) +
    (0 + 16 * m.plain)
unfolding inside later
default_extra m k env w f l a = refl

pub block_extra : (m : Weights) (k : ℕ) (env : Env) (w : List ℕ) (f l : ℕ) (parts : Forest) →
    extra m k env (node forms.BlockNode w f l parts) ≡ extras m k (in_block env) forms.BlockNode true parts +
    (0 + 16 * m.plain)
unfolding inside later
block_extra m k env w f l parts = refl

pub simple_extra : (m : Weights) (k : ℕ) (env : Env) (w : List ℕ) (f l : ℕ) (e : Syntax) →
    extra m k env (node forms.SimpleNode w f l (more e none)) ≡ (extra m k env e + 0) + (0 + 16 * m.plain)
unfolding inside later
simple_extra m k env w f l e = refl

pub return_extra : (m : Weights) (k : ℕ) (env : Env) (w : List ℕ) (f l : ℕ) (e : Syntax) →
    extra m k env (node forms.ReturnNode w f l (more e none)) ≡ (extra m k env e + 0) + (0 + 16 * m.plain)
unfolding inside later
return_extra m k env w f l e = refl

pub idle_extra : (m : Weights) (k : ℕ) (env : Env) (w : List ℕ) (f l : ℕ) →
    extra m k env (node forms.SimpleNode w f l none) ≡ 0 + (0 + 16 * m.plain)
unfolding inside later
idle_extra m k env w f l = refl

pub return0_extra : (m : Weights) (k : ℕ) (env : Env) (w : List ℕ) (f l : ℕ) →
    extra m k env (node forms.ReturnNode w f l none) ≡ 0 + (0 + 16 * m.plain)
unfolding inside later
return0_extra m k env w f l = refl

pub break_extra : (m : Weights) (k : ℕ) (env : Env) (w : List ℕ) (f l : ℕ) →
    extra m k env (node forms.BreakNode w f l none) ≡ 0 + (0 + 16 * m.plain)
unfolding inside later
break_extra m k env w f l = refl

pub continue_extra : (m : Weights) (k : ℕ) (env : Env) (w : List ℕ) (f l : ℕ) →
    extra m k env (node forms.ContinueNode w f l none) ≡ 0 + (0 + 16 * m.plain)
unfolding inside later
continue_extra m k env w f l = refl

pub line_extra : (m : Weights) (k : ℕ) (env : Env) (front : Bool) (p : Syntax) (ps : Forest) →
    extras m k env forms.BlockNode front (more p ps) ≡ extra m k env p + extras m k (behind env p) forms.BlockNode
    false ps
unfolding later
line_extra m k env front p ps = refl

pub arm_extra : (m : Weights) (k : ℕ) (env : Env) (front : Bool) (p : Syntax) (ps : Forest) →
    extras m k env forms.SwitchNode front (more p ps) ≡ extra m k env p +
    extras m k (on_labels env p) forms.SwitchNode false ps
unfolding later
arm_extra m k env front p ps = refl

-- ---- declarations

-- what a piece holds, as a value and as a list
abbrev pub listed_in : Weights → What → ℕ
listed_in m (values es) = measures m (expressions es)
listed_in m w = 0

abbrev pub content : Weights → What → ℕ
content m w = measure m (read w) + listed_in m w

not_listed : (m : Weights) (b u : ℕ) (w : What) → Free m b u w → listed_in m w ≡ 0
not_listed m b u (values es) h = absurd h
not_listed m b u (target (variable x)) h = refl
not_listed m b u (target (element s t r i)) h = refl
not_listed m b u w h = refl

abbrev pub content_optional : Weights → Option Piece → ℕ
content_optional m None = 0
content_optional m (Some p) = content m p.what + 2 * m.plain

small_content : (m : Weights) (b u : ℕ) (w : What) → Small m b w u → content m w + (b + 2 * m.plain) ≤ u
small_content m b u w s = let x = s.bound in let e = not_listed m b u w s.free in omega arith

extras_listed : (m : Weights) (k : ℕ) (env : Env) (front : Bool) (parts : Forest) → Leaves parts →
    extras m k env forms.ListNode front parts ≡ extras_here m k env parts
unfolding later
extras_listed m k env front none h = refl
extras_listed m k env front (more p ps) h =
    ap (λ z. extra m k env p + extras m k z forms.ListNode false ps) (h.0 env) ∙
    ap (λ z. extra m k env p + z) (extras_listed m k env false ps h.1)

extras_declared : (m : Weights) (k : ℕ) (env : Env) (front : Bool) (parts : Forest) → Leaves parts →
    extras m k env forms.DeclaratorNode front parts ≡ extras_here m k env parts
unfolding later
extras_declared m k env front none h = refl
extras_declared m k env front (more p ps) h =
    ap (λ z. extra m k env p + extras m k z forms.DeclaratorNode false ps) (h.0 env) ∙
    ap (λ z. extra m k env p + z) (extras_declared m k env false ps h.1)

list_same : (env : Env) (sites : List Place) (w : List ℕ) (f l : ℕ) (parts : Forest) → AreExpressions parts →
    built_of (meant env sites (node forms.ListNode w f l parts)) ≡ list_made (parts_here env sites parts).sites
    env.declared (parts_here env sites parts).pieces
unfolding meant make inside restored
list_same env sites w f l parts h =
    ap (λ (z : MadeParts). list_made z.sites env.declared z.pieces)
    (list_meant_here env true sites parts (expressions_neutral parts h))

list_extra : (m : Weights) (k : ℕ) (env : Env) (w : List ℕ) (f l : ℕ) (parts : Forest) → AreExpressions parts →
    extra m k env (node forms.ListNode w f l parts) ≡ extras_here m k env parts + (0 + 16 * m.plain)
unfolding inside
list_extra m k env w f l parts h =
    ap (λ z. z + (0 + 16 * m.plain)) (extras_listed m k env true parts (expressions_neutral parts h))

list_by : (m : Weights) (o : Option Declared) (ms : MadeParts) →
    (content m (list_made ms.sites o ms.pieces).what ≤ m.plain + room m ms.pieces) ×
    ((list_made ms.sites o ms.pieces).sites ≡ ms.sites)
list_by m None ms = (omega arith, refl)
list_by m (Some d) ms = (let x = operands_small m d.of ms.pieces in omega arith, refl)

list_content : (m : Weights) (k : ℕ) (env : Env) (sites : List Place) (t : Syntax) → IsList t →
    ((x : ℕ) → m.named x ≡ 0) → env.owner.number ≡ k →
    content m (meant env sites t).piece.what + (held m (length sites) + 2 * m.plain) ≤
    held m (length (meant env sites t).sites) + extra m k env t
list_content m k env sites (node forms.ListNode w f l parts) h z n =
    let s = list_same env sites w f l parts h in
    let x = all_hold m k env sites parts h (free_of m z env) n in
    let y = list_extra m k env w f l parts h in
    let c = list_by m env.declared (parts_here env sites parts) in
    let c0 = c.0 in
    let c1 = ap (λ z. held m (length z)) c.1 in
    subst (λ (b : Built). content m b.what + (held m (length sites) + 2 * m.plain) ≤ held m (length b.sites) +
    extra m k env (node forms.ListNode w f l parts)) (sym s) (omega arith)
list_content m k env sites t h z n = absurd h

part_content : (m : Weights) (k : ℕ) (env : Env) (sites : List Place) (t : Syntax) → IsExpression t ⊎ IsList t →
    ((x : ℕ) → m.named x ≡ 0) → env.owner.number ≡ k →
    content m (meant env sites t).piece.what + (held m (length sites) + 2 * m.plain) ≤
    held m (length (meant env sites t).sites) + extra m k env t
part_content m k env sites t (inl h) z n =
    small_content m (held m (length sites)) (held m (length (meant env sites t).sites) + extra m k env t)
    (meant env sites t).piece.what (holds m k env sites t h (free_of m z env) n)
part_content m k env sites t (inr h) z n = list_content m k env sites t h z n

last_content : (m : Weights) (k : ℕ) (env : Env) (sites : List Place) (parts : Forest) → AreLengths parts →
    ((x : ℕ) → m.named x ≡ 0) → env.owner.number ≡ k →
    content_optional m (last_piece (parts_here env sites parts).pieces) + held m (length sites) ≤
    held m (length (parts_here env sites parts).sites) + extras_here m k env parts
last_content m k env sites none h z n = omega arith
last_content m k env sites (more p none) h z n = let x = part_content m k env sites p h z n in omega arith
last_content m k env sites (more p (more q qs)) h z n =
    let x = (holds m k env sites p h.0 (free_of m z env) n).bound in
    let y = last_content m k env (meant env sites p).sites (more q qs) h.1 z n in
    omega arith

star_same : (env : Env) (sites : List Place) (w : List ℕ) (f l : ℕ) →
    built_of (meant env sites (node forms.StarNode w f l none)) ≡ made nothing sites
unfolding meant make parts_meant
star_same env sites w f l = refl

star_extra : (m : Weights) (k : ℕ) (env : Env) (w : List ℕ) (f l : ℕ) →
    extra m k env (node forms.StarNode w f l none) ≡ 0 + (0 + 16 * m.plain)
star_extra m k env w f l = refl

declarator_content : (m : Weights) (k : ℕ) (env : Env) (sites : List Place) (w : List ℕ) (f l : ℕ) (parts : Forest) →
    IsDeclarator (node forms.DeclaratorNode w f l parts) → ((x : ℕ) → m.named x ≡ 0) → env.owner.number ≡ k →
    content_optional m (last_piece (parts_here env sites parts).pieces) + held m (length sites) ≤
    held m (length (parts_here env sites parts).sites) + extras_here m k env parts
declarator_content m k env sites w f l none h z n = omega arith
declarator_content m k env sites w f l (more (node forms.StarNode w' f' l' none) none) h z n =
    let s = star_same env sites w' f' l' in
    let e = star_extra m k env w' f' l' in
    subst (λ (b : Built). (content m b.what + 2 * m.plain) + held m (length sites) ≤ held m (length b.sites) +
    (extra m k env (node forms.StarNode w' f' l' none) + 0)) (sym s) (omega arith)
declarator_content m k env sites w f l (more (node forms.StarNode w' f' l' none) (more q qs)) h z n =
    let s = ap (λ (b : Built). held m (length b.sites)) (star_same env sites w' f' l') in
    let y = last_content m k env (meant env sites (node forms.StarNode w' f' l' none)).sites (more q qs) h z n in
    omega arith
declarator_content m k env sites w f l (more (node form w' f' l' qs) ps) h z n =
    last_content m k env sites (more (node form w' f' l' qs) ps) h z n

initial_content : (m : Weights) (x : Declarator) (ps : List Piece) →
    content_optional m (initial x ps) ≤ content_optional m (last_piece ps)
initial_content m x ps = by x.init
  where
    by : (o : Option Syntax) → content_optional m (initial (record x { init = o }) ps) ≤
        content_optional m (last_piece ps)
    by None = omega arith
    by (Some t) = omega arith

set_read : (m : Weights) (q : Option Piece) → measure_optional m (set_value (λ p. read p.what) q) ≤ content_optional m q
set_read m None = omega arith
set_read m (Some p) = omega arith

set_operand : (m : Weights) (t : IntType) (q : Option Piece) →
    measure_optional m (set_value (operand t) q) ≤ content_optional m q
set_operand m t None = omega arith
set_operand m t (Some p) = let x = operand_small m t p in omega arith

listed_what : (m : Weights) (o : Option Kind) (w : What) →
    measures m (expressions (list_values (Some (record { kind = o; what = w })))) ≤ content m w + 2 * m.plain
listed_what m o (values es) = omega arith
listed_what m o w = omega arith

listed_small : (m : Weights) (q : Option Piece) → measures m (expressions (list_values q)) ≤ content_optional m q
listed_small m None = omega arith
listed_small m (Some p) = listed_what m p.kind p.what

-- what a declarator is made into, with the sites
pub record LinesWeighed (m : Weights) (before : ℕ) (b : Built) (x : ℕ) : Type 0 where
  pub bound : weigh_all m (lines_of b.what) + before ≤ held m (length b.sites) + x

scalar_weighed : (m : Weights) (env : Env) (sites : List Place) (v : Option Expression) (s : Space) (before x c : ℕ) →
    measure_optional m v ≤ c → c + before ≤ held m (length sites) + x →
    LinesWeighed m before (scalar_made env sites v s) (x + (0 + 16 * m.plain))
scalar_weighed m env sites v spaces.Private before x c h k = record { bound = omega arith }
scalar_weighed m env sites v spaces.Local before x c h k = record { bound = omega arith }
scalar_weighed m env sites v spaces.Global before x c h k = record { bound = omega arith }
scalar_weighed m env sites v spaces.Constant before x c h k = record { bound = omega arith }

array_weighed : (m : Weights) (env : Env) (place : Place) (sites : List Place) (vs : List Expression) (s : Space)
    (before x c : ℕ) → measures m (expressions vs) ≤ c → c + before ≤ held m (length sites) + x →
    LinesWeighed m before (array_made env place sites vs s) (x + (0 + 16 * m.plain))
array_weighed m env place sites vs spaces.Private before x c h k = let q =
    held_more m sites place in record { bound = omega arith }
array_weighed m env place sites vs spaces.Local before x c h k = record { bound = omega arith }
array_weighed m env place sites vs spaces.Global before x c h k = record { bound = omega arith }
array_weighed m env place sites vs spaces.Constant before x c h k = record { bound = omega arith }

declarator_weighed : (m : Weights) (env : Env) (place : Place) (sites : List Place) (o : Option Declared)
    (x : Declarator) (ps : List Piece) (before e : ℕ) →
    content_optional m (last_piece ps) + before ≤ held m (length sites) + e →
    LinesWeighed m before (declarator_made env place sites o x ps) (e + (0 + 16 * m.plain))
declarator_weighed m env place sites None x ps before e h = record { bound = omega arith }
declarator_weighed m env place sites (Some d) x ps before e h = by x.star
  where
    c : content_optional m (initial x ps) + before ≤ held m (length sites) + e
    c = let i = initial_content m x ps in omega arith

    plain : (b : Bool) → LinesWeighed m before
        (if b then scalar_made env sites (set_value (operand d.of) (initial x ps)) (kept_in env d) else array_made env
        place sites (list_values (initial x ps)) (kept_in env d)) (e + (0 + 16 * m.plain))
    plain true = scalar_weighed m env sites (set_value (operand d.of) (initial x ps)) (kept_in env d) before e
        (content_optional m (initial x ps)) (set_operand m d.of (initial x ps)) c
    plain false = array_weighed m env place sites (list_values (initial x ps)) (kept_in env d) before e
        (content_optional m (initial x ps)) (listed_small m (initial x ps)) c

    by : (s : Option Bool) → LinesWeighed m before (declarator_made env place sites (Some d) (record x { star = s })
        ps) (e + (0 + 16 * m.plain))
    by (Some fixed) = (let r = set_read m (initial x ps) in let c' = c in record { bound = omega arith })
    by None = plain (nat_eq x.dimensions 0)

declarator_same : (env : Env) (sites : List Place) (w : List ℕ) (f l : ℕ) (parts : Forest) →
    IsDeclarator (node forms.DeclaratorNode w f l parts) →
    built_of (meant env sites (node forms.DeclaratorNode w f l parts)) ≡ declarator_made env (place_of env f)
    (parts_here env sites parts).sites env.declared (declarator_in w f parts) (parts_here env sites parts).pieces
unfolding meant make inside
declarator_same env sites w f l parts h =
    ap (λ (z : Env). declarator_made z (place_of z f) (parts_meant env forms.DeclaratorNode true sites parts).sites
    z.declared (declarator_in w f parts) (parts_meant env forms.DeclaratorNode true sites parts).pieces)
    (declarator_visible env w f l parts h)
    ∙ ap (λ (z : MadeParts). declarator_made env (place_of env f) z.sites env.declared (declarator_in w f parts)
    z.pieces) (meant_here env true sites parts (declarator_neutral w f l parts h))

declarator_extra : (m : Weights) (k : ℕ) (env : Env) (w : List ℕ) (f l : ℕ) (parts : Forest) →
    IsDeclarator (node forms.DeclaratorNode w f l parts) → extra m k env (node forms.DeclaratorNode w f l parts) ≡
    extras_here m k env parts + (0 + 16 * m.plain)
unfolding inside
declarator_extra m k env w f l parts h =
    ap (λ z. z + (0 + 16 * m.plain)) (extras_declared m k env true parts (declarator_neutral w f l parts h))

pub one_weighed : (m : Weights) (k : ℕ) (env : Env) (sites : List Place) (t : Syntax) → IsDeclarator t →
    ((x : ℕ) → m.named x ≡ 0) → env.owner.number ≡ k →
    LinesWeighed m (held m (length sites)) (built_of (meant env sites t)) (extra m k env t)
one_weighed m k env sites (node forms.DeclaratorNode w f l parts) h z n =
    subst (λ b. LinesWeighed m (held m (length sites)) b (extra m k env (node forms.DeclaratorNode w f l parts)))
    (sym (declarator_same env sites w f l parts h))
    (subst (λ x. LinesWeighed m (held m (length sites))
    (declarator_made env (place_of env f) (parts_here env sites parts).sites env.declared
    (declarator_in w f parts) (parts_here env sites parts).pieces) x)
    (sym (declarator_extra m k env w f l parts h))
    (declarator_weighed m env (place_of env f) (parts_here env sites parts).sites env.declared
    (declarator_in w f parts) (parts_here env sites parts).pieces (held m (length sites))
    (extras_here m k env parts) (declarator_content m k env sites w f l parts h z n)))
one_weighed m k env sites t h z n = absurd h

pub declare_extra : (m : Weights) (k : ℕ) (env : Env) (p : Syntax) (ps : Forest) → IsDeclarator p →
    extras m k env forms.DeclareNode false (more p ps) ≡ extra m k env p + extras m k (behind env p) forms.DeclareNode
    false ps
declare_extra m k env p ps h =
    ap (λ z. extra m k env p + extras m k z forms.DeclareNode false ps)
    (next_declarator (behind env p) false p (kind_of env p) h)

no_declarator : (env : Env) (sites : List Place) →
    ((parts_meant env forms.DeclareNode false sites none).pieces ≡ []) ×
    ((parts_meant env forms.DeclareNode false sites none).sites ≡ sites)
unfolding parts_meant
no_declarator env sites = (refl, refl)

declarators_weighed : (m : Weights) (k : ℕ) (asked : Asked) (env : Env) (sites : List Place) (b : ℕ)
    (parts : Forest) → AreDeclarators parts → SoundParts asked env forms.DeclareNode (Some b) parts →
    is_deep env.scopes ≡ true → ((x : ℕ) → m.named x ≡ 0) → env.owner.number ≡ k →
    weigh_all m (all_lines (parts_meant env forms.DeclareNode false sites parts).pieces) + held m (length sites) ≤
    held m (length (parts_meant env forms.DeclareNode false sites parts).sites) +
    extras m k env forms.DeclareNode false parts
declarators_weighed m k asked env sites b none h s d z n =
    let q = no_declarator env sites in
    let e = ap (λ y. weigh_all m (all_lines y)) q.0 in
    let g = ap (λ y. held m (length y)) q.1 in
    omega arith
declarators_weighed m k asked env sites b (more p ps) h s d z n =
    let mid = behind env p in
    let gp = one_declarator_grows asked env roles.Other p h.0 s.0 d in
    let x = subst (λ y. SoundParts asked y forms.DeclareNode (Some (last_of p)) ps)
    (next_declarator mid false p (kind_of env p) h.0) s.1 in
    let u = (one_weighed m k env sites p h.0 z n).bound in
    let v = declarators_weighed m k asked mid (meant env sites p).sites (last_of p) ps h.1 x
    (deep_outer env.scopes mid.scopes d gp.scopes) z (ap (λ y. y.owner.number) gp.frame ∙ n) in
    let ex = declare_extra m k env p ps h.0 in
    let ms = parts_meant mid forms.DeclareNode false (meant env sites p).sites ps in
    let fl = weigh_followed m (lines_of (meant env sites p).piece.what) (all_lines ms.pieces) in
    subst (λ (y : MadeParts). weigh_all m (all_lines y.pieces) + held m (length sites) ≤ held m (length y.sites) +
    extras m k env forms.DeclareNode false (more p ps)) (sym (declare_meant env false sites p ps h.0))
    (omega arith)

pub declaration_extra : (m : Weights) (k : ℕ) (env : Env) (w : List ℕ) (f l : ℕ) (t : Syntax) (ds : Forest) →
    IsType t → extra m k env (node forms.DeclareNode w f l (more t ds)) ≡
    (extra m k env t + extras m k (typed_env env t) forms.DeclareNode false ds) + (0 + 16 * m.plain)
unfolding inside
declaration_extra m k env w f l t ds h =
    ap (λ z. (extra m k env t + extras m k z forms.DeclareNode false ds) + (0 + 16 * m.plain))
    (type_next env true t (kind_of env t) h)

pub declaration_weighed : (m : Weights) (k : ℕ) (asked : Asked) (env : Env) (sites : List Place) (role : Role)
    (t : Syntax) → IsDeclaration t → SoundTree asked env role t → is_deep env.scopes ≡ true →
    ((x : ℕ) → m.named x ≡ 0) → env.owner.number ≡ k →
    LinesWeighed m (held m (length sites)) (built_of (meant env sites t)) (extra m k env t)
declaration_weighed m k asked env sites role (node forms.DeclareNode w f l (more t ds)) h s d z n =
    let x = declarators_weighed m k asked (typed_env env t) sites (last_of t) ds h.1
    (declare_sound asked env role w f l t ds h.0 s).1 d z n in
    let e = declaration_extra m k env w f l t ds h.0 in
    subst (λ b. LinesWeighed m (held m (length sites)) b (extra m k env (node forms.DeclareNode w f l (more t ds))))
    (sym (declare_built env sites w f l t ds h.0)) (record { bound = omega arith })
declaration_weighed m k asked env sites role t h s d z n = absurd h
