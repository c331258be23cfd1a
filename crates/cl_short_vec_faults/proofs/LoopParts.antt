-- The test, the step and the body of a `for` go on side by side: what is tested is so on both sides.
use Rattle.std.proofs.Common.{◌≡◌, ℕ, suc, ◌≤◌, nat_eq, [], Some}
use Rattle.std.proofs.Common.{Bool, true, false, if◌then◌else◌, refl, ap, sym, ◌∙◌, subst, arith}
use Rattle.std.proofs.lemmas.Bool.{ne_eqb}
use Rattle.cl_tree.specs.declared.tree.Form.{Form}
use Rattle.cl_tree.specs.declared.tree.Form.TheVariants as forms
use Rattle.cl_tree.specs.Syntax.{Syntax, node, Forest, none, more, first_of, last_of}
use Rattle.cl_meaning.specs.declared.kind.Role.TheVariants as roles
use Rattle.cl_meaning.specs.Environment.{Env}
use Rattle.cl_meaning.specs.Declarations.{form_of, word_of}
use Rattle.cl_meaning.specs.Spelling.{setting_in}
use Rattle.cl_meaning.specs.Visible.{behind, later, kind_of, role_of}
use Rattle.cl_meaning.specs.Faults.{Asked}
use Rattle.cl_check_sound.specs.Shape.{IsExpressionOf, IsStatementOf}
use Rattle.cl_short_vec.specs.declared.nodes.Span.{Span}
use Rattle.cl_short_vec.specs.declared.roles.Role.TheVariants.{Free}
use Rattle.cl_short_vec.specs.Kinds.{Names, is_vector}
use Rattle.cl_short_vec.specs.Kinds as kinds
use Rattle.cl_short_vec.specs.Marks.{Mark, mark, unmarked, marking, kind_at, tree_at, marked, marked_parts}
use Rattle.cl_short_vec.specs.Faults.{refusals}
use Rattle.cl_short_vec.specs.Order.{operator_in}
use Rattle.cl_short_vec.specs.Scalar.{scalar}
use Rattle.cl_short_vec.specs.Unit.{scalarised, all_scalarised, whole_by, set_block}
use Rattle.cl_short_vec_faults.specs.PlainForm.{plain_of}
use Rattle.cl_short_vec_faults.proofs.Ordered.{Ordered}
use Rattle.cl_short_vec_faults.proofs.TokenFacts.{Facts, ForApart}
use Rattle.cl_short_vec_faults.proofs.Spans.{StandsAt, plain_stands, scalar_stands}
use Rattle.cl_short_vec_faults.proofs.Refused.{free_no_vector}
use Rattle.cl_short_vec_faults.proofs.StatementParts.{Goes, Plain, AllGo, PartsPlaced, PartsGoing}
use Rattle.cl_short_vec_faults.proofs.StatementParts.{expression_scalar, expression_step, statement_step}
use Rattle.cl_short_vec_faults.proofs.StatementParts.{nothing_goes}

-- ---- the places of the parts

pub for_plain : Plain forms.ForNode
unfolding later
for_plain = record {
  goes = λ asked names n p s front t q j k e h. h;
  scopes = λ env front p k. refl;
  body = λ env front p k. refl;
  flags = λ env front p k. refl;
  names = λ all names front p. refl;
}

-- numbers that are apart are not the same
apart_numbers : (n m : ℕ) → suc m ≤ n → nat_eq n m ≡ false
apart_numbers n m h = ne_eqb n m (λ e. absurd (omega arith))

-- behind a token of its own a part is not tested
apart_other : (l : ℕ) (t : Syntax) → suc (suc l) ≤ first_of t → role_of forms.ForNode (Some l) t ≡ roles.Other
apart_other l t h = ap (λ z. if z then roles.Tested else roles.Other) (apart_numbers (first_of t) (suc l) h)

-- the role is that of the tokens
same_role : (i j : ℕ) (t u : Syntax) → i ≡ j → first_of t ≡ first_of u →
    role_of forms.ForNode (Some i) t ≡ role_of forms.ForNode (Some j) u
same_role i j t u e g = ap (λ z. if nat_eq z (suc i) then roles.Tested else roles.Other) g ∙
    ap (λ z. if nat_eq (first_of u) (suc z) then roles.Tested else roles.Other) e

-- what stands for an expression, at which no vector may stand
expression_stands : (names : Names) (t : Syntax) → IsExpressionOf true t → Ordered t → Facts t →
    refusals Free (marked names t) ≡ [] → StandsAt (first_of t) (last_of t) (scalarised (marked names t))
expression_stands names t e o f r = subst (StandsAt (first_of t) (last_of t)) (sym (expression_scalar names t e))
    (scalar_stands t names Free e o f r (free_no_vector t names e r))

-- what stands for a statement begins where the statement does
whole_first : (form : Form) (s : Span) (m : Mark) (plain : Syntax) → first_of plain ≡ s.first →
    first_of (whole_by form s m plain) ≡ s.first
whole_first forms.AssignNode s (mark t k unmarked) plain e = e
whole_first forms.AssignNode s (mark t k (marking a unmarked)) plain e = e
whole_first forms.AssignNode s (mark t k (marking a (marking b unmarked))) plain e = by (is_vector (kind_at a))
  where
    by : (z : Bool) → first_of (if z then set_block s (operator_in (setting_in (word_of t))) a b else plain) ≡ s.first
    by true = refl
    by false = e
whole_first forms.AssignNode s (mark t k (marking a (marking b (marking c cs)))) plain e = e
whole_first form s m plain e = e

statement_first : (names : Names) (t : Syntax) → IsStatementOf true t →
    first_of (scalarised (marked names t)) ≡ first_of t
unfolding scalarised marked marked_parts scalar
statement_first names (node forms.BlockNode w f l ps) h = refl
statement_first names (node forms.IfNode w f l ps) h = refl
statement_first names (node forms.WhileNode w f l ps) h = refl
statement_first names (node forms.DoNode w f l ps) h = refl
statement_first names (node forms.ForNode w f l ps) h = refl
statement_first names (node forms.SwitchNode w f l ps) h = refl
statement_first names (node forms.CaseNode w f l ps) h = refl
statement_first names (node forms.DefaultNode w f l ps) h = refl
statement_first names (node forms.BreakNode w f l none) h = refl
statement_first names (node forms.ContinueNode w f l none) h = refl
statement_first names (node forms.ReturnNode w f l none) h = refl
statement_first names (node forms.ReturnNode w f l (more a none)) h = refl
statement_first names (node forms.SimpleNode w f l none) h = refl
statement_first names (node forms.SimpleNode w f l (more a none)) h =
    whole_first (form_of (tree_at (marked names a))) (record { first = f; last = l }) (marked names a) _ refl
statement_first names t h = absurd h

-- ---- test, step and body

-- the body, behind a token of its own
body_go : (asked : Asked) (all : Forest) (names : Names) (i j n m : ℕ) (p s : Env) (t : Syntax) →
    IsStatementOf true t → Goes t → suc (suc i) ≤ first_of t → suc (suc j) ≤ first_of t →
    PartsPlaced asked forms.ForNode all false (Some j) names n m p s (more t none) →
    PartsGoing asked forms.ForNode false (Some i) names m p s (more t none)
    (all_scalarised (marked_parts forms.ForNode all names false (more t none)))
body_go asked all names i j n m p s t e go a b h =
    let P = plain_of t in
    let q = scalarised (marked names t) in
    let x = (plain_stands t h.ordered.1 h.facts.0).0 in
    let y = statement_first names t e in
    statement_step asked forms.ForNode for_plain all names false (Some i) (Some j) n m p s t none refl refl e go
    (apart_other j P (subst (λ z. suc (suc j) ≤ z) (sym x) b))
    (apart_other i q (subst (λ z. suc (suc i) ≤ z) (sym y) a)) h
    (λ r. nothing_goes asked forms.ForNode all (kinds.later forms.ForNode all names false t) false (Some (last_of q))
    (Some (last_of P)) (suc (last_of t)) m (later (behind p P) forms.ForNode false P (kind_of p P))
    (later (behind s q) forms.ForNode false q (kind_of s q)) r)

-- an expression and the body
last_go : (asked : Asked) (all : Forest) (names : Names) (i j n m : ℕ) (p s : Env) (e t : Syntax) →
    IsExpressionOf true e → IsStatementOf true t → Goes t →
    role_of forms.ForNode (Some j) (plain_of e) ≡ role_of forms.ForNode (Some i) (scalarised (marked names e)) →
    suc (suc (last_of e)) ≤ first_of t →
    PartsPlaced asked forms.ForNode all false (Some j) names n m p s (more e (more t none)) →
    PartsGoing asked forms.ForNode false (Some i) names m p s (more e (more t none))
    (all_scalarised (marked_parts forms.ForNode all names false (more e (more t none))))
unfolding marked_parts
last_go asked all names i j n m p s e t x y go ro a h =
    let P = plain_of e in
    let q = scalarised (marked names e) in
    let u = (plain_stands e h.ordered.1 h.facts.0).1 in
    let v = (expression_stands names e x h.ordered.1 h.facts.0 h.stays.0).1 in
    expression_step asked forms.ForNode for_plain all names false (Some i) (Some j) n m p s e (more t none) refl refl x
    ro h (λ r. body_go asked all (kinds.later forms.ForNode all names false e) (last_of q) (last_of P)
    (suc (last_of e)) m (later (behind p P) forms.ForNode false P (kind_of p P))
    (later (behind s q) forms.ForNode false q (kind_of s q)) t y go (omega arith) (omega arith) r)

-- the parts behind the head
abbrev pub BehindHead : Forest → Type 0
BehindHead (more t none) = IsStatementOf true t
BehindHead (more e (more t none)) = IsExpressionOf true e × IsStatementOf true t
BehindHead (more c (more e (more t none))) = IsExpressionOf true c × IsExpressionOf true e × IsStatementOf true t
BehindHead parts = ⊥

pub rest_go : (asked : Asked) (all : Forest) (names : Names) (d : Syntax) (n m : ℕ) (p s : Env) (ps : Forest) →
    BehindHead ps → AllGo ps → ForApart (more d ps) →
    PartsPlaced asked forms.ForNode all false (Some (last_of d)) names n m p s ps →
    PartsGoing asked forms.ForNode false (Some (last_of d)) names m p s ps
    (all_scalarised (marked_parts forms.ForNode all names false ps))
unfolding marked_parts
rest_go asked all names d n m p s none x go a h = absurd x
rest_go asked all names d n m p s (more t none) x go a h =
    body_go asked all names (last_of d) (last_of d) n m p s t x go.0 a a h
rest_go asked all names d n m p s (more e (more t none)) x go a h =
    let u = (plain_stands e h.ordered.1 h.facts.0).0 in
    let v = (expression_stands names e x.0 h.ordered.1 h.facts.0 h.stays.0).0 in
    last_go asked all names (last_of d) (last_of d) n m p s e t x.0 x.1 go.1.0
    (same_role (last_of d) (last_of d) (plain_of e) (scalarised (marked names e)) refl (u ∙ sym v)) a h
rest_go asked all names d n m p s (more c (more e (more t none))) x go a h =
    let P = plain_of c in
    let q = scalarised (marked names c) in
    let u = plain_stands c h.ordered.1 h.facts.0 in
    let v = expression_stands names c x.0 h.ordered.1 h.facts.0 h.stays.0 in
    let names' = kinds.later forms.ForNode all names false c in
    expression_step asked forms.ForNode for_plain all names false (Some (last_of d)) (Some (last_of d)) n m p s c
    (more e (more t none)) refl refl x.0 (same_role (last_of d) (last_of d) P q refl (u.0 ∙ sym v.0)) h
    (λ r. let i = plain_stands e r.ordered.1 r.facts.0 in
    let j = expression_stands names' e x.1 r.ordered.1 r.facts.0 r.stays.0 in
    let k = a.0 in let ul = u.1 in let vl = v.1 in let i' = i.0 in let j' = j.0 in
    last_go asked all names' (last_of q) (last_of P) (suc (last_of c)) m
    (later (behind p P) forms.ForNode false P (kind_of p P))
    (later (behind s q) forms.ForNode false q (kind_of s q)) e t x.1 x.2 go.1.1.0
    (apart_other (last_of P) (plain_of e) (omega arith) ∙
    sym (apart_other (last_of q) (scalarised (marked names' e)) (omega arith))) a.1 r)
rest_go asked all names d n m p s (more c (more e (more t (more v vs)))) x go a h = absurd x
