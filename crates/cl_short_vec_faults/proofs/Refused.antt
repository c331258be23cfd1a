-- Where nothing is refused: of the parts, and which kinds stand where.
use Rattle.std.proofs.Common.{◌≡◌, ℕ, List, [], ◌∷◌, ◌++◌, Option, None, Some, Bool, true, false, ◌&&◌, ◌||◌, refl}
use Rattle.std.proofs.Common.{sym, ap, ◌∙◌, subst, if◌then◌else◌}
use Rattle.std.proofs.lemmas.Bool.{false≢true}
use Rattle.cl_tree.specs.declared.tree.Form.{Form}
use Rattle.cl_tree.specs.declared.tree.Form.TheVariants as forms
use Rattle.cl_tree.specs.Syntax.{Syntax, node, Forest, none, more, first_of}
use Rattle.cl_meaning.specs.Declarations.{form_of}
use Rattle.cl_meaning.specs.Kinds.{is_some}
use Rattle.cl_check_sound.specs.Shape.{IsExpressionOf, is_expression}
use Rattle.cl_short_vec.specs.declared.types.Vector.{Vector}
use Rattle.cl_short_vec.specs.declared.kinds.Kind.{Kind}
use Rattle.cl_short_vec.specs.declared.kinds.Kind.TheVariants.{Vectors, Pointer, Other}
use Rattle.cl_short_vec.specs.declared.roles.Role.{Role}
use Rattle.cl_short_vec.specs.declared.roles.Role.TheVariants.{Free, Used, Target, Whole, Listed, Items}
use Rattle.cl_short_vec.specs.Types.{vector_in}
use Rattle.cl_short_vec.specs.Kinds.{Names, within, behind, is_vector}
use Rattle.cl_short_vec.specs.Marks.{Mark, mark, Marks, unmarked, marking, kind_at, front_kind, marked, marked_parts}
use Rattle.cl_short_vec.specs.Roles.{is_place, role_of, paren_role, used_in, item_role, sets_vector}
use Rattle.cl_short_vec.specs.Faults.{misplaced_kind, misplaced, no_component, types_differ}
use Rattle.cl_short_vec.specs.Faults.{least, refusal_at, is_end, refusals, refusals_in}
use Rattle.cl_short_vec_faults.specs.Law.{lists, assigns, is_of_vectors}

-- ---- lists of refusals

pub none_of : {A : Type 0} (xs ys : List A) → xs ++ ys ≡ [] → (xs ≡ []) × (ys ≡ [])
none_of [] ys h = (refl, h)
none_of (x ∷ xs) ys h = absurd cc

least_none : (token : ℕ) (a b c : Bool) → least token a b c ≡ [] → (a ≡ false) × (b ≡ false)
least_none token true b c h = absurd cc
least_none token false true c h = absurd cc
least_none token false false true h = absurd cc
least_none token false false false h = (refl, refl)

-- nothing is refused in the parts, and no condition stands at the node
pub node_none : (role : Role) (t : Syntax) (k : Kind) (ms : Marks) → refusals role (mark t k ms) ≡ [] →
    (refusals_in role (mark t k ms) true ms ≡ []) × (misplaced role t k ≡ false) ×
    (no_component role (mark t k ms) ≡ false)
unfolding refusals
node_none role t k ms h =
    let d = none_of (refusals_in role (mark t k ms) true ms) (refusal_at role (mark t k ms)) h in
    let l = least_none (first_of t) (misplaced role t k) (no_component role (mark t k ms))
    (types_differ role t k ms) d.1 in
    (d.0, l.0, l.1)

-- nothing is refused in any of the parts, where no vector may stand at them
abbrev pub AllStay : Marks → Type 0
AllStay unmarked = Unit {0}
AllStay (marking m ms) = (refusals Free m ≡ []) × AllStay ms

stay_in : (role : Role) (whole : Mark) (front : Bool) (ms : Marks) →
    ((x y : Bool) (p : Mark) → role_of role whole x y p ≡ Free) → refusals_in role whole front ms ≡ [] → AllStay ms
unfolding refusals_in
stay_in role whole front unmarked g e = tt
stay_in role whole front (marking p ps) g e =
    let d = none_of (refusals (role_of role whole front (is_end ps) p) p) (refusals_in role whole false ps) e in
    (subst (λ z. refusals z p ≡ []) (g front (is_end ps) p) d.0, stay_in role whole false ps g d.1)

pub parts_stay : (role : Role) (t : Syntax) (k : Kind) (ms : Marks) →
    ((x y : Bool) (p : Mark) → role_of role (mark t k ms) x y p ≡ Free) → refusals role (mark t k ms) ≡ [] → AllStay ms
parts_stay role t k ms g e = stay_in role (mark t k ms) true ms g (node_none role t k ms e).0

-- the only part
pub part_none : (role : Role) (t : Syntax) (k : Kind) (m : Mark) → refusals role (mark t k (marking m unmarked)) ≡ [] →
    refusals (role_of role (mark t k (marking m unmarked)) true true m) m ≡ []
unfolding refusals_in
part_none role t k m e = (none_of (refusals (role_of role (mark t k (marking m unmarked)) true true m) m) []
    (node_none role t k (marking m unmarked) e).0).0

-- ---- expressions

misplaced_by : (role : Role) (form : Form) (w : List ℕ) (f l : ℕ) (ps : Forest) (k : Kind) →
    is_expression form ≡ true → misplaced role (node form w f l ps) k ≡ misplaced_kind role k
unfolding misplaced
misplaced_by role forms.TypeNode w f l ps k h = absurd (false≢true h)
misplaced_by role forms.DeclaratorNode w f l ps k h = absurd (false≢true h)
misplaced_by role forms.ListNode w f l ps k h = absurd (false≢true h)
misplaced_by role form w f l ps k h = refl

pub expression_form : (t : Syntax) → IsExpressionOf true t → is_expression (form_of t) ≡ true
expression_form (node forms.NumberNode w f l none) h = refl
expression_form (node forms.TruthNode w f l none) h = refl
expression_form (node forms.VariableNode w f l none) h = refl
expression_form (node forms.ParenNode w f l (more a none)) h = refl
expression_form (node forms.ExprNode w f l (more a (more b none))) h = refl
expression_form (node forms.AssignNode w f l (more a (more b none))) h = refl
expression_form (node forms.CondNode w f l (more c (more a (more b none)))) h = refl
expression_form (node forms.OrNode w f l (more a (more b none))) h = refl
expression_form (node forms.AndNode w f l (more a (more b none))) h = refl
expression_form (node forms.BorNode w f l (more a (more b none))) h = refl
expression_form (node forms.BxorNode w f l (more a (more b none))) h = refl
expression_form (node forms.BandNode w f l (more a (more b none))) h = refl
expression_form (node forms.EqualNode w f l (more a (more b none))) h = refl
expression_form (node forms.OrderNode w f l (more a (more b none))) h = refl
expression_form (node forms.ShiftNode w f l (more a (more b none))) h = refl
expression_form (node forms.SumNode w f l (more a (more b none))) h = refl
expression_form (node forms.TermNode w f l (more a (more b none))) h = refl
expression_form (node forms.CastNode w f l (more t (more a none))) h = refl
expression_form (node forms.UnaryNode w f l (more a none)) h = refl
expression_form (node forms.PostfixNode w f l (more a none)) h = refl
expression_form (node forms.PostfixNode w f l (more a (more b none))) h = refl
expression_form (node forms.CallNode w f l parts) h = refl
expression_form t h = absurd h

-- a kind that is refused where it is a vector of another sort
pub kind_placed : (role : Role) (t : Syntax) (names : Names) → IsExpressionOf true t →
    refusals role (marked names t) ≡ [] → misplaced_kind role (kind_at (marked names t)) ≡ false
unfolding marked
kind_placed role (node form w f l parts) names h r =
    sym (misplaced_by role form w f l parts (kind_at (marked names (node form w f l parts)))
    (expression_form (node form w f l parts) h)) ∙
    (node_none role (node form w f l parts) (kind_at (marked names (node form w f l parts)))
    (marked_parts form parts (within form w names) true parts) r).1

-- a type that is no vector
pub type_placed : (w : List ℕ) (f l : ℕ) (parts : Forest) (names : Names) →
    refusals Free (marked names (node forms.TypeNode w f l parts)) ≡ [] → vector_in w ≡ None
unfolding marked misplaced
type_placed w f l parts names r = by (vector_in w) (node_none Free (node forms.TypeNode w f l parts)
    (kind_at (marked names (node forms.TypeNode w f l parts))) (marked_parts forms.TypeNode parts names true parts) r).1
  where
    by : (o : Option Vector) → (is_some o && true) ≡ false → o ≡ None
    by None e = refl
    by (Some v) e = absurd (false≢true (sym e))

-- ---- roles of parts

-- neither items nor the whole expression of a statement
abbrev pub is_inner : Role → Bool
is_inner Listed = false
is_inner Items = false
is_inner Whole = false
is_inner role = true

inner_lists : (role : Role) (form : Form) → is_inner role ≡ true → lists role form ≡ false
inner_lists Listed form h = absurd (false≢true h)
inner_lists Items form h = absurd (false≢true h)
inner_lists _ form h = refl

inner_sets : (role : Role) (k : Kind) → is_inner role ≡ true → sets_vector role k ≡ false
inner_sets Whole k h = absurd (false≢true h)
inner_sets _ k h = refl

inner_assigns : (role : Role) (form : Form) (ms : Marks) → is_inner role ≡ true → assigns role form ms ≡ false
inner_assigns role forms.AssignNode ms h = inner_sets role (front_kind ms) h
inner_assigns role _ ms h = refl

-- an inner node that is no vector has nothing to do with vectors
pub inner_apart : (role : Role) (m : Mark) → is_inner role ≡ true → is_vector (kind_at m) ≡ false →
    is_of_vectors role m ≡ false
inner_apart role (mark t k ms) h v = rw v (rw (inner_lists role (form_of t) h) (inner_assigns role (form_of t) ms h))

-- what has nothing to do with vectors
pub apart : (role : Role) (t : Syntax) (k : Kind) (ms : Marks) → is_of_vectors role (mark t k ms) ≡ false →
    (is_vector k ≡ false) × (lists role (form_of t) ≡ false) × (assigns role (form_of t) ms ≡ false)
apart role t k ms h = by (is_vector k) (lists role (form_of t)) (assigns role (form_of t) ms) h
  where
    by : (a b c : Bool) → (a || (b || c)) ≡ false → (a ≡ false) × (b ≡ false) × (c ≡ false)
    by true b c e = absurd (false≢true (sym e))
    by false true c e = absurd (false≢true (sym e))
    by false false true e = absurd (false≢true (sym e))
    by false false false e = (refl, refl, refl)

pub used_free : (k : Kind) → is_vector k ≡ false → used_in k ≡ Free
used_free k h = ap (λ z. if z then Used else Free) h

pub used_inner : (k : Kind) → is_inner (used_in k) ≡ true
used_inner (Vectors v r) = refl
used_inner (Pointer s c v) = refl
used_inner (Other b) = refl

pub paren_inner : (role : Role) (k : Kind) → lists role forms.ParenNode ≡ false → is_inner (paren_role role k) ≡ true
paren_inner Listed k h = absurd (false≢true (sym h))
paren_inner Target k h = by (is_place k)
  where
    by : (b : Bool) → is_inner (if b then Target else Used) ≡ true
    by true = refl
    by false = refl
paren_inner _ k h = used_inner k

pub item_free : (role : Role) (front : Bool) → lists role forms.ExprNode ≡ false → item_role role front ≡ Free
item_free Items front h = absurd (false≢true (sym h))
item_free _ front h = refl

-- a part at which no vector may stand has nothing to do with one
pub free_apart : (t : Syntax) (names : Names) → IsExpressionOf true t → refusals Free (marked names t) ≡ [] →
    is_of_vectors Free (marked names t) ≡ false
free_apart t names h r = inner_apart Free (marked names t) refl (kind_placed Free t names h r)

pub free_no_vector : (t : Syntax) (names : Names) → IsExpressionOf true t → refusals Free (marked names t) ≡ [] →
    is_vector (kind_at (marked names t)) ≡ false
free_no_vector t names h r = kind_placed Free t names h r

-- ---- names behind an expression

pub expression_names : (names : Names) (t : Syntax) → IsExpressionOf true t → behind names t ≡ names
expression_names names (node forms.DeclareNode w f l ps) h = absurd h
expression_names names (node forms.ParamsNode w f l ps) h = absurd h
expression_names names (node forms.FunctionNode w f l ps) h = absurd h
expression_names names (node form w f l ps) h = refl
