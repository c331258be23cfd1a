-- What stands for an expression that is no vector is the same constant as its plain form, or none where that is none.
use Rattle.std.proofs.Common.{◌≡◌, ℕ, List, [], Option, None, Some, Bool, true, false, not, ◌&&◌, ◌||◌, refl, ap, sym}
use Rattle.std.proofs.Common.{◌∙◌, subst, ◌⊎◌, inl, inr, if◌then◌else◌}
use Rattle.std.proofs.lemmas.Bool.{false≢true}
use Rattle.std.specs.Prelude.{nat_eq, length}
use Rattle.wg_num.specs.declared.types.Bin.{Bin}
use Rattle.wg_num.specs.declared.types.Bin.TheVariants as bins
use Rattle.wg_num.specs.declared.types.Un.{Un}
use Rattle.wg_num.specs.declared.types.Un.TheVariants as uns
use Rattle.cl_tree.specs.declared.tree.Form.{Form}
use Rattle.cl_tree.specs.declared.tree.Form.TheVariants as forms
use Rattle.cl_tree.specs.Syntax.{Syntax, node, Forest, none, more}
use Rattle.cl_tree.specs.Nodes.{forest1}
use Rattle.cl_meaning.specs.Spelling.{binary_in, prefix_in, postfix_in, declared_in}
use Rattle.cl_meaning.specs.declared.constant.Constant.{Constant}
use Rattle.cl_meaning.specs.Constants.{constant_of, binary_constant, prefix_constant, unary_constant, cast_constant}
use Rattle.cl_meaning.specs.Constants.{both_constant, either_constant, chosen_constant, size_constant}
use Rattle.cl_meaning.specs.Conversions.{is_comparison}
use Rattle.cl_meaning.specs.declared.types.Declared.{Declared}
use Rattle.cl_meaning.specs.declared.operators.Prefix.{Prefix}
use Rattle.cl_meaning.specs.declared.operators.Prefix.TheVariants as prefixes
use Rattle.cl_meaning.specs.declared.operators.Postfix.{Postfix}
use Rattle.cl_meaning.specs.declared.operators.Postfix.TheVariants as postfixes
use Rattle.cl_meaning.specs.Kinds.{is_some}
use Rattle.cl_check_sound.specs.Shape.{IsType, PrefixOf, indexes, selects, IsExpressionOf}
use Rattle.cl_short_vec.specs.declared.nodes.Span.{Span}
use Rattle.cl_short_vec.specs.declared.types.Vector.{Vector}
use Rattle.cl_short_vec.specs.declared.kinds.Reach.TheVariants.{Value, Variable, Element}
use Rattle.cl_short_vec.specs.declared.kinds.Kind.{Kind}
use Rattle.cl_short_vec.specs.declared.kinds.Kind.TheVariants.{Vectors, Pointer, Other}
use Rattle.cl_short_vec.specs.declared.roles.Role.{Role}
use Rattle.cl_short_vec.specs.declared.roles.Role.TheVariants.{Free, Used, Base, Typed, Listed}
use Rattle.cl_short_vec.specs.Types.{vector, signed_of, vector_type, selection_in, selected}
use Rattle.cl_short_vec.specs.Kinds.{Names, within, behind, is_vector, value_of, first_vector, compared}
use Rattle.cl_short_vec.specs.Kinds.{pointer_moved, joined_kind, prefix_kind, postfix_kind, selection_of, several}
use Rattle.cl_short_vec.specs.Kinds.{cast_kind}
use Rattle.cl_short_vec.specs.Plain.{is_pointed}
use Rattle.cl_short_vec.specs.Marks.{mark, Marks, unmarked, marking, tree_at, kind_at, marked, marked_parts, kind_by}
use Rattle.cl_short_vec.specs.Roles.{is_place, is_paren, back_form, role_of, operand_role, paren_role, selected_role}
use Rattle.cl_short_vec.specs.Faults.{refusals, no_component, lacks_component, selects_nothing, repeats, components_of}
use Rattle.cl_short_vec.specs.Scalar.{scalar, scalars, component_at, counted_behind, prefixed}
use Rattle.cl_short_vec.specs.Scalar.{postfixed, one_component, two_by, one_selected, chosen_or, element_component}
use Rattle.cl_short_vec.specs.Scalar.{content_component}
use Rattle.cl_short_vec_faults.specs.PlainForm.{plain_of, plains_of}
use Rattle.cl_short_vec_faults.proofs.Refused.{node_none, part_none, parts_stay, used_free, free_no_vector, kind_placed}
use Rattle.cl_short_vec_faults.proofs.Places.{content_place, index_place, place_form, can_be_place}
use Rattle.cl_short_vec_faults.proofs.PlainForms.{selected_pointed, postfix_unpointed, unpointed_selection}
use Rattle.cl_short_vec_faults.proofs.PlainForms.{selection_some, selection_tells}

abbrev NoConstant : Syntax → Type 0
NoConstant t = constant_of t ≡ None

-- ---- what is none

left_none : (o : Option Bin) (a b : Option Constant) → a ≡ None → binary_constant o a b ≡ None
left_none None a b h = refl
left_none (Some op) None b h = refl
left_none (Some op) (Some a) b h = absurd cc

right_none : (o : Option Bin) (a b : Option Constant) → b ≡ None → binary_constant o a b ≡ None
right_none None a b h = refl
right_none (Some op) None b h = refl
right_none (Some op) (Some a) None h = refl
right_none (Some op) (Some a) (Some b) h = absurd cc

counted_none : (op : Bin) (v : Vector) (s : Span) (p : Syntax) → NoConstant (counted_behind op v s p)
counted_none bins.Add v s p = left_none _ None _ refl
counted_none op v s p = left_none _ None _ refl

either_none : (b : Bool) (w : List ℕ) (f l : ℕ) (p : Syntax) → (b ≡ true → NoConstant p) →
    NoConstant (if b then p else node forms.PostfixNode w f l (forest1 p))
either_none true w f l p h = h refl
either_none false w f l p h = refl

chosen_none : (o : Option ℕ) (g : ℕ → Syntax) (t : Syntax) → ((c : ℕ) → NoConstant (g c)) → NoConstant t →
    NoConstant (chosen_or o g t)
chosen_none None g t h i = i
chosen_none (Some c) g t h i = h c

postfixed_none : (o : Option Postfix) (j : Kind) (w : List ℕ) (f l : ℕ) (ps : Forest) (p : Syntax) →
    NoConstant (postfixed o j (node forms.PostfixNode w f l ps) p)
postfixed_none (Some (postfixes.Step op)) (Pointer s c v) w f l ps p = counted_none op v (record {
  first = f;
  last = l;
}) p
postfixed_none o j w f l ps p = refl

indexed_none : (j k : Kind) (w : List ℕ) (f l : ℕ) (ps : Forest) (a b : Syntax) →
    NoConstant (two_by forms.PostfixNode j k (node forms.PostfixNode w f l ps) a b)
indexed_none (Pointer s c v) k w f l ps a b = refl
indexed_none j k w f l ps a b = refl

assigned_none : (j k : Kind) (w : List ℕ) (f l : ℕ) (ps : Forest) (a b : Syntax) →
    NoConstant (two_by forms.AssignNode j k (node forms.AssignNode w f l ps) a b)
assigned_none (Pointer s c v) (Other y) w f l ps a b = refl
assigned_none j k w f l ps a b = refl

element_none : (j : Kind) (c : ℕ) (s : Span) (w : List ℕ) (f l : ℕ) (ps : Forest) (a b : Syntax) →
    NoConstant (element_component forms.PostfixNode j c s (node forms.PostfixNode w f l ps) a b)
element_none (Pointer sp d v) c s w f l ps a b = refl
element_none j c s w f l ps a b = refl

call_none : (w : List ℕ) (f l : ℕ) (parts : Forest) → NoConstant (node forms.CallNode w f l parts)
call_none w f l none = refl
call_none w f l (more a none) = refl
call_none w f l (more a (more b none)) = refl
call_none w f l (more a (more b (more c none))) = refl
call_none w f l (more a (more b (more c (more d ps)))) = refl

called_none : (w : List ℕ) (f l : ℕ) (k : Kind) (parts : Forest) (ms : Marks) →
    NoConstant (scalar (mark (node forms.CallNode w f l parts) k ms))
unfolding scalar
called_none w f l k parts unmarked = refl
called_none w f l k parts (marking a unmarked) = refl
called_none w f l k parts (marking a (marking b unmarked)) = refl
called_none w f l k parts (marking a (marking b (marking c others))) =
    call_none w f l (scalars (marking a (marking b (marking c others))))

-- ---- pointers

abbrev is_pointer : Kind → Bool
is_pointer (Pointer s c v) = true
is_pointer k = false

moved_pointer : (op : Bin) (j k : Kind) → is_pointer (pointer_moved op j k) ≡ true →
    (is_pointer j ≡ true) ⊎ (is_pointer k ≡ true)
moved_pointer bins.Add (Pointer s c v) (Other b) h = inl refl
moved_pointer bins.Add (Other b) (Pointer s c v) h = inr refl
moved_pointer bins.Sub (Pointer s c v) (Other y) h = inl refl
moved_pointer op j k h = absurd (false≢true h)

if_pointer : (b : Bool) (j k : Kind) → is_pointer j ≡ false → is_pointer k ≡ false →
    is_pointer (if b then j else k) ≡ false
if_pointer true j k h i = h
if_pointer false j k h i = i

value_no_pointer : (k : Kind) → is_pointer (value_of k) ≡ false
value_no_pointer (Vectors v r) = refl
value_no_pointer k = refl

compared_no_pointer : (op : Bin) (k : Kind) → is_pointer k ≡ false → is_pointer (compared op k) ≡ false
compared_no_pointer op (Vectors v r) h =
    if_pointer (is_comparison op) (Vectors (vector (signed_of v.of) v.count) r) (Vectors v r) refl refl
compared_no_pointer op k h = h

joined_pointer : (o : Option Bin) (j k : Kind) → is_pointer (joined_kind o j k) ≡ true →
    (is_pointer j ≡ true) ⊎ (is_pointer k ≡ true)
joined_pointer None j k h = absurd (false≢true h)
joined_pointer (Some op) j k h = by (is_vector (first_vector j k)) h
  where
    first : is_pointer (first_vector j k) ≡ false
    first = if_pointer (is_vector j) (value_of j) (value_of k) (value_no_pointer j) (value_no_pointer k)

    by : (b : Bool) → is_pointer (if b then compared op (first_vector j k) else pointer_moved op j k) ≡ true →
        (is_pointer j ≡ true) ⊎ (is_pointer k ≡ true)
    by true e = absurd (false≢true (sym (compared_no_pointer op (first_vector j k) first) ∙ e))
    by false e = moved_pointer op j k e

operator_none : (o : Option Bin) (j k : Kind) (a b : Option Constant) → is_pointer (joined_kind o j k) ≡ true →
    (is_pointer j ≡ true → a ≡ None) → (is_pointer k ≡ true → b ≡ None) → binary_constant o a b ≡ None
operator_none o j k a b p g h = by (joined_pointer o j k p)
  where
    by : (is_pointer j ≡ true) ⊎ (is_pointer k ≡ true) → binary_constant o a b ≡ None
    by (inl e) = left_none o a b (g e)
    by (inr e) = right_none o a b (h e)

prefix_none : (o : Option Prefix) (k : Kind) (d : Option Declared) (a : Option Constant) →
    is_pointer (prefix_kind o k) ≡ true → prefix_constant o d a ≡ None
prefix_none None k d a h = refl
prefix_none (Some (prefixes.Operator uns.Not)) k d a h = absurd (false≢true h)
prefix_none (Some (prefixes.Operator uns.Plus)) k d a h = absurd (false≢true (sym (value_no_pointer k) ∙ h))
prefix_none (Some (prefixes.Operator uns.Minus)) k d a h = absurd (false≢true (sym (value_no_pointer k) ∙ h))
prefix_none (Some (prefixes.Operator uns.Flip)) k d a h = absurd (false≢true (sym (value_no_pointer k) ∙ h))
prefix_none (Some prefixes.Content) k d a h = refl
prefix_none (Some prefixes.Address) k d a h = refl
prefix_none (Some (prefixes.Step op)) k d a h = refl
prefix_none (Some prefixes.Size) k d a h = absurd (false≢true h)

selection_no_pointer : (k : Kind) (name : List ℕ) → is_pointer (selection_of k name) ≡ false
selection_no_pointer (Pointer s c v) name = refl
selection_no_pointer (Other b) name = refl
selection_no_pointer (Vectors v r) name = by (selected v.count name)
  where
    by : (o : Option (List ℕ)) → is_pointer (several v r o) ≡ false
    by None = refl
    by (Some ks) = if_pointer (nat_eq (length ks) 1) (Other true) (Vectors (vector v.of (length ks)) r) refl refl

-- a pointer to vectors is no constant
pub pointer_none : (names : Names) (t : Syntax) → IsExpressionOf true t →
    is_pointer (kind_at (marked names t)) ≡ true → NoConstant (plain_of t)
unfolding marked marked_parts kind_by plain_of plains_of
pointer_none names (node forms.NumberNode w f l none) h p = absurd (false≢true p)
pointer_none names (node forms.TruthNode w f l none) h p = absurd (false≢true p)
pointer_none names (node forms.VariableNode w f l none) h p = refl
pointer_none names (node forms.ParenNode w f l (more a none)) h p = pointer_none names a h p
pointer_none names (node forms.ExprNode w f l (more a (more b none))) h p = refl
pointer_none names (node forms.AssignNode w f l (more a (more b none))) h p = refl
pointer_none names (node forms.CondNode w f l (more c (more a (more b none)))) h p = absurd (false≢true p)
pointer_none names (node forms.OrNode w f l (more a (more b none))) h p = absurd (false≢true p)
pointer_none names (node forms.AndNode w f l (more a (more b none))) h p = absurd (false≢true p)
pointer_none names (node forms.BorNode w f l (more a (more b none))) h p =
    operator_none (binary_in w) (kind_at (marked names a)) (kind_at (marked (behind names a) b)) (constant_of (plain_of
    a))
    (constant_of (plain_of b)) p (pointer_none names a h.1) (pointer_none (behind names a) b h.2)
pointer_none names (node forms.BxorNode w f l (more a (more b none))) h p =
    operator_none (binary_in w) (kind_at (marked names a)) (kind_at (marked (behind names a) b)) (constant_of (plain_of
    a))
    (constant_of (plain_of b)) p (pointer_none names a h.1) (pointer_none (behind names a) b h.2)
pointer_none names (node forms.BandNode w f l (more a (more b none))) h p =
    operator_none (binary_in w) (kind_at (marked names a)) (kind_at (marked (behind names a) b)) (constant_of (plain_of
    a))
    (constant_of (plain_of b)) p (pointer_none names a h.1) (pointer_none (behind names a) b h.2)
pointer_none names (node forms.EqualNode w f l (more a (more b none))) h p =
    operator_none (binary_in w) (kind_at (marked names a)) (kind_at (marked (behind names a) b)) (constant_of (plain_of
    a))
    (constant_of (plain_of b)) p (pointer_none names a h.1) (pointer_none (behind names a) b h.2)
pointer_none names (node forms.OrderNode w f l (more a (more b none))) h p =
    operator_none (binary_in w) (kind_at (marked names a)) (kind_at (marked (behind names a) b)) (constant_of (plain_of
    a))
    (constant_of (plain_of b)) p (pointer_none names a h.1) (pointer_none (behind names a) b h.2)
pointer_none names (node forms.ShiftNode w f l (more a (more b none))) h p =
    operator_none (binary_in w) (kind_at (marked names a)) (kind_at (marked (behind names a) b)) (constant_of (plain_of
    a))
    (constant_of (plain_of b)) p (pointer_none names a h.1) (pointer_none (behind names a) b h.2)
pointer_none names (node forms.SumNode w f l (more a (more b none))) h p =
    operator_none (binary_in w) (kind_at (marked names a)) (kind_at (marked (behind names a) b)) (constant_of (plain_of
    a))
    (constant_of (plain_of b)) p (pointer_none names a h.1) (pointer_none (behind names a) b h.2)
pointer_none names (node forms.TermNode w f l (more a (more b none))) h p =
    operator_none (binary_in w) (kind_at (marked names a)) (kind_at (marked (behind names a) b)) (constant_of (plain_of
    a))
    (constant_of (plain_of b)) p (pointer_none names a h.1) (pointer_none (behind names a) b h.2)
pointer_none names (node forms.CastNode w f l (more t (more a none))) h p = by (vector_type (tree_at (marked names t)))
    p
  where
    by : (o : Option Vector) → is_pointer (cast_kind o) ≡ true → NoConstant (plain_of (node forms.CastNode w f l
        (more t (more a none))))
    by None e = absurd (false≢true e)
    by (Some v) e = absurd (false≢true e)
pointer_none names (node forms.UnaryNode w f l (more a none)) h p =
    prefix_none (prefix_in w) (kind_at (marked names a)) (declared_in (plain_of a)) (constant_of (plain_of a)) p
pointer_none names (node forms.PostfixNode w f l (more a none)) (inl h) p =
    either_none (is_pointed w) w f l (plain_of a) (λ e. absurd (false≢true (sym (postfix_unpointed w h.0) ∙ e)))
pointer_none names (node forms.PostfixNode w f l (more a none)) (inr h) p =
    let n = selection_some w h.0 in
    absurd (false≢true (sym (selection_no_pointer (kind_at (marked names a)) n.0) ∙
    (ap (λ o. is_pointer (postfix_kind o (postfix_in w) (kind_at (marked names a)))) (sym n.1) ∙ p)))
pointer_none names (node forms.PostfixNode w f l (more a (more b none))) h p = refl
pointer_none names (node forms.CallNode w f l parts) h p = call_none w f l (plains_of parts)
pointer_none names t h p = absurd h

-- ---- places

-- neither in the plain form nor without vectors is a place a constant
pub record NoneAt (names : Names) (t : Syntax) : Type 0 where
  pub plain : NoConstant (plain_of t)
  pub whole : NoConstant (scalar (marked names t))
  pub component : (c : ℕ) (s : Span) → NoConstant (component_at c s (marked names t))

never : {A : Type 0} (names : Names) (form : Form) (w : List ℕ) (f l : ℕ) (ps : Forest) → can_be_place form ≡ false →
    is_place (kind_at (marked names (node form w f l ps))) ≡ true → A
unfolding marked
never names form w f l ps h p =
    absurd (false≢true (sym h ∙ place_form form w names (marked_parts form ps (within form w names) true ps) p))

selection_place : (k : Kind) (name : List ℕ) → is_place (selection_of k name) ≡ true → is_place k ≡ true
selection_place (Pointer s c v) name h = absurd (false≢true h)
selection_place (Other b) name h = absurd (false≢true h)
selection_place (Vectors v Value) name h = by (selected v.count name) h
  where
    by : (o : Option (List ℕ)) → is_place (several v Value o) ≡ true → false ≡ true
    by None e = e
    by (Some ks) e = two (nat_eq (length ks) 1) e
      where
        two : (b : Bool) → is_place (if b then (Other true) else Vectors (vector v.of (length ks)) Value) ≡ true →
            false ≡ true
        two true e = e
        two false e = e
selection_place (Vectors v Variable) name h = refl
selection_place (Vectors v (Element s c)) name h = refl

-- a step is no place
step_no_place : (o : Option Postfix) (j : Kind) → indexes o ≡ false → is_place (postfix_kind None o j) ≡ true → ⊥
step_no_place o j i h = false≢true (sym i ∙ ap indexes (index_place o j h).0)

if_true : {A : Type 0} (b : Bool) (x y : A) → b ≡ true → (if b then x else y) ≡ x
if_true true x y h = refl
if_true false x y h = absurd (false≢true h)

-- components that are selected of a place
selected_none : (names : Names) (w : List ℕ) (f l : ℕ) (a : Syntax) → selects w ≡ true → NoneAt names a →
    NoneAt names (node forms.PostfixNode w f l (more a none))
unfolding marked marked_parts scalar component_at plain_of plains_of
selected_none names w f l a h i = let b = selected_pointed w h in record {
  plain = either_none (is_pointed w) w f l (plain_of a) (λ e. i.plain);
  whole = chosen_none (one_component (marked names (node forms.PostfixNode w f l (more a none))))
      (λ c. component_at c (record { first = f; last = l }) (marked names a))
      (if is_pointed w then scalar (marked names a) else postfixed (postfix_in w) (kind_at (marked names a))
      (node forms.PostfixNode w f l (more a none)) (scalar (marked names a)))
      (λ c. i.component c (record { first = f; last = l }))
      (ap constant_of (if_true (is_pointed w) (scalar (marked names a)) (postfixed (postfix_in w)
      (kind_at (marked names a)) (node forms.PostfixNode w f l (more a none)) (scalar (marked names a))) b) ∙ i.whole);
  component = λ c s. ap constant_of (if_true (is_some (selection_in w)) (component_at c s (marked names a))
      (content_component forms.PostfixNode (prefix_in w) (kind_at (marked names a)) c s
      (node forms.PostfixNode w f l (more a none)) (scalar (marked names a)))
      (selection_tells w ∙ h)) ∙ i.component c s;
}

-- the content of a pointer to vectors
abbrev ContentNone : Option Prefix → Kind → Syntax → Syntax → Type 0
ContentNone o j t p = (NoConstant (prefixed o j t p)) ×
    ((c : ℕ) (s : Span) → NoConstant (content_component forms.UnaryNode o j c s t p))

content_none : (o : Option Prefix) (j : Kind) (t p : Syntax) → is_place (prefix_kind o j) ≡ true → ContentNone o j t p
content_none o j t p h =
    let g = content_place o j h in
    let here : ContentNone (Some prefixes.Content) (Pointer g.1.space g.1.constant g.1.v) t p = (refl, λ c s. refl) in
    subst (λ z. ContentNone z j t p) (sym g.0)
    (subst (λ z. ContentNone (Some prefixes.Content) z t p) (sym g.1.pointer) here)

pub place_none : (names : Names) (t : Syntax) → IsExpressionOf true t → is_place (kind_at (marked names t)) ≡ true →
    NoneAt names t
unfolding marked marked_parts scalar component_at plain_of plains_of kind_by
place_none names (node forms.VariableNode w f l none) h p =
    record { plain = refl; whole = refl; component = λ c s. refl }
place_none names (node forms.ParenNode w f l (more a none)) h p =
    let i = place_none names a h p in record { plain = i.plain; whole = i.whole; component = i.component }
place_none names (node forms.UnaryNode w f l (more a none)) h p =
    let g = content_none (prefix_in w) (kind_at (marked names a)) (node forms.UnaryNode w f l (more a none))
    (scalar (marked names a)) p in record {
      plain = ap (λ o. prefix_constant o (declared_in (plain_of a)) (constant_of (plain_of a)))
          (content_place (prefix_in w) (kind_at (marked names a)) p).0;
      whole = g.0;
      component = g.1;
    }
place_none names (node forms.PostfixNode w f l (more a none)) (inl h) p =
    let n = unpointed_selection w (postfix_unpointed w h.0) in
    absurd (step_no_place (postfix_in w) (kind_at (marked names a)) h.1
    (ap (λ o. is_place (postfix_kind o (postfix_in w) (kind_at (marked names a)))) (sym n) ∙ p))
place_none names (node forms.PostfixNode w f l (more a none)) (inr h) p =
    let n = selection_some w h.0 in
    let q = selection_place (kind_at (marked names a)) n.0
    (ap (λ o. is_place (postfix_kind o (postfix_in w) (kind_at (marked names a)))) (sym n.1) ∙ p) in
    selected_none names w f l a h.0 (place_none names a h.1 q)
place_none names (node forms.PostfixNode w f l (more a (more b none))) h p = record {
  plain = refl;
  whole = indexed_none (kind_at (marked names a)) (kind_at (marked (behind names a) b)) w f l (more a (more b none))
      (scalar (marked names a)) (scalar (marked (behind names a) b));
  component = λ c s. element_none (kind_at (marked names a)) c s w f l (more a (more b none)) (scalar (marked names a))
      (scalar (marked (behind names a) b));
}
place_none names (node forms.NumberNode w f l none) h p = never names forms.NumberNode w f l none refl p
place_none names (node forms.TruthNode w f l none) h p = never names forms.TruthNode w f l none refl p
place_none names (node forms.ExprNode w f l (more a (more b none))) h p =
    never names forms.ExprNode w f l (more a (more b none)) refl p
place_none names (node forms.AssignNode w f l (more a (more b none))) h p =
    never names forms.AssignNode w f l (more a (more b none)) refl p
place_none names (node forms.CondNode w f l (more c (more a (more b none)))) h p =
    never names forms.CondNode w f l (more c (more a (more b none))) refl p
place_none names (node forms.OrNode w f l (more a (more b none))) h p = never names forms.OrNode w f l (more a (more b
    none)) refl p
place_none names (node forms.AndNode w f l (more a (more b none))) h p = never names forms.AndNode w f l (more a (more
    b none)) refl p
place_none names (node forms.BorNode w f l (more a (more b none))) h p = never names forms.BorNode w f l (more a (more
    b none)) refl p
place_none names (node forms.BxorNode w f l (more a (more b none))) h p =
    never names forms.BxorNode w f l (more a (more b none)) refl p
place_none names (node forms.BandNode w f l (more a (more b none))) h p =
    never names forms.BandNode w f l (more a (more b none)) refl p
place_none names (node forms.EqualNode w f l (more a (more b none))) h p =
    never names forms.EqualNode w f l (more a (more b none)) refl p
place_none names (node forms.OrderNode w f l (more a (more b none))) h p =
    never names forms.OrderNode w f l (more a (more b none)) refl p
place_none names (node forms.ShiftNode w f l (more a (more b none))) h p =
    never names forms.ShiftNode w f l (more a (more b none)) refl p
place_none names (node forms.SumNode w f l (more a (more b none))) h p = never names forms.SumNode w f l (more a (more
    b none)) refl p
place_none names (node forms.TermNode w f l (more a (more b none))) h p =
    never names forms.TermNode w f l (more a (more b none)) refl p
place_none names (node forms.CastNode w f l (more t (more a none))) h p =
    never names forms.CastNode w f l (more t (more a none)) refl p
place_none names (node forms.CallNode w f l parts) h p = never names forms.CallNode w f l parts refl p
place_none names t h p = absurd h

-- ---- what is no vector

-- a type is the same in both
pub type_same : (names : Names) (t : Syntax) → IsType t → scalar (marked names t) ≡ plain_of t
unfolding marked marked_parts scalar plain_of plains_of
type_same names (node forms.TypeNode w f l none) h = refl
type_same names (node forms.TypeNode w f l (more (node forms.SpaceNode w' f' l' none) none)) h = refl
type_same names t h = absurd h

tree_same : (names : Names) (t : Syntax) → tree_at (marked names t) ≡ t
unfolding marked
tree_same names (node form w f l ps) = refl

-- a sum, of which a pointer to vectors is no constant
sum_same : (j k : Kind) (w : List ℕ) (f l : ℕ) (ps : Forest) (ua ub pa pb : Syntax) →
    constant_of ua ≡ constant_of pa → constant_of ub ≡ constant_of pb → (is_pointer j ≡ true → NoConstant pa) →
    (is_pointer k ≡ true → NoConstant pb) → constant_of (two_by forms.SumNode j k (node forms.SumNode w f l ps) ua ub) ≡
    binary_constant (binary_in w) (constant_of pa) (constant_of pb)
sum_same (Pointer s c v) (Other b) w f l ps ua ub pa pb x y g h =
    left_none (binary_in w) (constant_of ua) _ (x ∙ g refl) ∙
    sym (left_none (binary_in w) (constant_of pa) (constant_of pb) (g refl))
sum_same (Other b) (Pointer s c v) w f l ps ua ub pa pb x y g h =
    right_none (binary_in w) _ (constant_of ub) (y ∙ h refl) ∙
    sym (right_none (binary_in w) (constant_of pa) (constant_of pb) (h refl))
sum_same j k w f l ps ua ub pa pb x y g h =
    ap (λ z. binary_constant (binary_in w) z (constant_of ub)) x ∙
    ap (λ z. binary_constant (binary_in w) (constant_of pa) z) y

-- an operator before its operand
unary_same : (o : Option Prefix) (j : Kind) (w : List ℕ) (f l : ℕ) (ps : Forest) (ua pa : Syntax) → prefix_in w ≡ o →
    ((op : Un) → o ≡ Some (prefixes.Operator op) → constant_of ua ≡ constant_of pa) →
    (o ≡ Some prefixes.Size → ua ≡ pa) → constant_of (prefixed o j (node forms.UnaryNode w f l ps) ua) ≡
    prefix_constant o (declared_in pa) (constant_of pa)
unary_same None j w f l ps ua pa e g h = ap (λ o. prefix_constant o (declared_in ua) (constant_of ua)) e
unary_same (Some (prefixes.Operator op)) j w f l ps ua pa e g h =
    ap (λ o. prefix_constant o (declared_in ua) (constant_of ua)) e ∙ ap (unary_constant op) (g op refl)
unary_same (Some prefixes.Content) (Pointer s c v) w f l ps ua pa e g h = refl
unary_same (Some prefixes.Content) j w f l ps ua pa e g h =
    ap (λ o. prefix_constant o (declared_in ua) (constant_of ua)) e
unary_same (Some prefixes.Address) j w f l ps ua pa e g h =
    ap (λ o. prefix_constant o (declared_in ua) (constant_of ua)) e
unary_same (Some (prefixes.Step op)) (Pointer s c v) w f l ps ua pa e g h = refl
unary_same (Some (prefixes.Step op)) j w f l ps ua pa e g h =
    ap (λ o. prefix_constant o (declared_in ua) (constant_of ua)) e
unary_same (Some prefixes.Size) j w f l ps ua pa e g h =
    ap (λ o. prefix_constant o (declared_in ua) (constant_of ua)) e ∙ ap (λ z. size_constant (declared_in z)) (h refl)

-- a vector of which one component is selected is a place
base_place : (j : Kind) (name : List ℕ) → selects_nothing j name ≡ false → (is_vector j && not (is_place j)) ≡ false →
    is_place j ≡ true
base_place (Vectors v r) name n e = by (is_place (Vectors v r)) e
  where
    by : (b : Bool) → not b ≡ false → b ≡ true
    by true h = refl
    by false h = absurd (false≢true (sym h))
base_place (Pointer s c v) name n e = absurd (false≢true (sym n))
base_place (Other y) name n e = absurd (false≢true (sym n))

first_false : (a b : Bool) → a || b ≡ false → a ≡ false
first_false true b h = h
first_false false b h = refl

selected_place : (role : Role) (names : Names) (w : List ℕ) (f l : ℕ) (a : Syntax) → IsExpressionOf true a →
    selects w ≡ true → refusals role (marked names (node forms.PostfixNode w f l (more a none))) ≡ [] →
    is_vector (kind_at (marked names (node forms.PostfixNode w f l (more a none)))) ≡ false →
    is_place (kind_at (marked names a)) ≡ true
unfolding marked marked_parts role_of no_component
selected_place role names w f l a h s r v =
    let t = node forms.PostfixNode w f l (more a none) in
    let k = kind_at (marked names t) in
    let ma = marked names a in
    let n = selection_some w s in
    let lacks = ap (λ o. lacks_component role o (kind_at ma) (components_of (marked names t))) (sym n.1) ∙
    (node_none role t k (marking ma unmarked) r).2 in
    let role_is = ap (λ o. selected_role o k) n.1 ∙ ap (λ b. if b then Used else Base) v in
    let q = subst (λ z. refusals z ma ≡ []) role_is (part_none role t k ma r) in
    base_place (kind_at ma) n.0 (first_false (selects_nothing (kind_at ma) n.0)
    (repeats role (components_of (marked names t))) lacks) (kind_placed Base a names h q)

no_cast : (o : Option Vector) → is_vector (cast_kind o) ≡ false → o ≡ None
no_cast None h = refl
no_cast (Some v) h = absurd (false≢true (sym h))

if_false : {A : Type 0} (b : Bool) (x y : A) → b ≡ false → (if b then x else y) ≡ y
if_false true x y h = absurd (false≢true (sym h))
if_false false x y h = refl

step_none : (names : Names) (w : List ℕ) (f l : ℕ) (a : Syntax) → is_some (postfix_in w) ≡ true →
    NoConstant (scalar (marked names (node forms.PostfixNode w f l (more a none))))
unfolding marked marked_parts scalar
step_none names w f l a h =
    let ma = marked names a in
    let t = node forms.PostfixNode w f l (more a none) in
    let stepped = postfixed (postfix_in w) (kind_at ma) t (scalar ma) in
    let b = postfix_unpointed w h in
    let cs = components_of (marked names t) in
    ap (λ o. constant_of (chosen_or (one_selected forms.PostfixNode o cs)
    (λ c. component_at c (record { first = f; last = l }) ma) (if is_pointed w then scalar ma else stepped)))
    (unpointed_selection w b) ∙
    (ap constant_of (if_false (is_pointed w) (scalar ma) stepped b) ∙
    postfixed_none (postfix_in w) (kind_at ma) w f l (more a none) (scalar ma))

-- What stands for an expression that is no vector is the same constant as its plain form.
pub constants_same : (role : Role) (names : Names) (t : Syntax) → IsExpressionOf true t →
    refusals role (marked names t) ≡ [] → is_vector (kind_at (marked names t)) ≡ false →
    constant_of (scalar (marked names t)) ≡ constant_of (plain_of t)
unfolding marked marked_parts scalar scalars plain_of plains_of kind_by role_of
constants_same role names (node forms.NumberNode w f l none) h r v = refl
constants_same role names (node forms.TruthNode w f l none) h r v = refl
constants_same role names (node forms.VariableNode w f l none) h r v = refl
constants_same role names (node forms.ParenNode w f l (more a none)) h r v =
    let ma = marked names a in
    constants_same (paren_role role (kind_at ma)) names a h (part_none role (node forms.ParenNode w f l (more a none))
    (kind_at ma) ma r) v
constants_same role names (node forms.ExprNode w f l (more a (more b none))) h r v = refl
constants_same role names (node forms.AssignNode w f l (more a (more b none))) h r v =
    assigned_none (kind_at (marked names a)) (kind_at (marked (behind names a) b)) w f l (more a (more b none))
    (scalar (marked names a)) (scalar (marked (behind names a) b))
constants_same role names (node forms.CondNode w f l (more c (more a (more b none)))) h r v =
    let t = node forms.CondNode w f l (more c (more a (more b none))) in
    let q = parts_stay role t (Other true)
    (marked_parts forms.CondNode (more c (more a (more b none))) names true (more c
    (more a (more b none)))) (λ x y p. refl) r in
    let na = behind names c in
    let nb = behind na a in
    let i = constants_same Free names c h.0 q.0 (free_no_vector c names h.0 q.0) in
    let j = constants_same Free na a h.1 q.1.0 (free_no_vector a na h.1 q.1.0) in
    let k = constants_same Free nb b h.2 q.1.1.0 (free_no_vector b nb h.2 q.1.1.0) in
    ap (λ z. chosen_constant z (constant_of (scalar (marked na a))) (constant_of (scalar (marked nb b)))) i ∙
    (ap (λ z. chosen_constant (constant_of (plain_of c)) z (constant_of (scalar (marked nb b)))) j ∙
    ap (λ z. chosen_constant (constant_of (plain_of c)) (constant_of (plain_of a)) z) k)
constants_same role names (node forms.OrNode w f l (more a (more b none))) h r v =
    let ps = more a (more b none) in
    let t = node forms.OrNode w f l ps in
    let q = parts_stay role t (kind_at (marked names t)) (marked_parts forms.OrNode ps names true ps)
    (λ x y p. refl) r in
    let nb = behind names a in
    let i = constants_same Free names a h.0 q.0 (free_no_vector a names h.0 q.0) in
    let j = constants_same Free nb b h.1 q.1.0 (free_no_vector b nb h.1 q.1.0) in
    ap (λ z. either_constant z (constant_of (scalar (marked nb b)))) i ∙
    ap (λ z. either_constant (constant_of (plain_of a)) z) j
constants_same role names (node forms.AndNode w f l (more a (more b none))) h r v =
    let ps = more a (more b none) in
    let t = node forms.AndNode w f l ps in
    let q = parts_stay role t (kind_at (marked names t)) (marked_parts forms.AndNode ps names true ps)
    (λ x y p. refl) r in
    let nb = behind names a in
    let i = constants_same Free names a h.0 q.0 (free_no_vector a names h.0 q.0) in
    let j = constants_same Free nb b h.1 q.1.0 (free_no_vector b nb h.1 q.1.0) in
    ap (λ z. both_constant z (constant_of (scalar (marked nb b)))) i ∙
    ap (λ z. both_constant (constant_of (plain_of a)) z) j
constants_same role names (node forms.BorNode w f l (more a (more b none))) h r v =
    let ps = more a (more b none) in
    let t = node forms.BorNode w f l ps in
    let q = parts_stay role t (kind_at (marked names t)) (marked_parts forms.BorNode ps names true ps)
    (λ x y p. used_free (kind_at (marked names t)) v) r in
    let nb = behind names a in
    let i = constants_same Free names a h.1 q.0 (free_no_vector a names h.1 q.0) in
    let j = constants_same Free nb b h.2 q.1.0 (free_no_vector b nb h.2 q.1.0) in
    ap (λ z. binary_constant (binary_in w) z (constant_of (scalar (marked nb b)))) i ∙
    ap (λ z. binary_constant (binary_in w) (constant_of (plain_of a)) z) j
constants_same role names (node forms.BxorNode w f l (more a (more b none))) h r v =
    let ps = more a (more b none) in
    let t = node forms.BxorNode w f l ps in
    let q = parts_stay role t (kind_at (marked names t)) (marked_parts forms.BxorNode ps names true ps)
    (λ x y p. used_free (kind_at (marked names t)) v) r in
    let nb = behind names a in
    let i = constants_same Free names a h.1 q.0 (free_no_vector a names h.1 q.0) in
    let j = constants_same Free nb b h.2 q.1.0 (free_no_vector b nb h.2 q.1.0) in
    ap (λ z. binary_constant (binary_in w) z (constant_of (scalar (marked nb b)))) i ∙
    ap (λ z. binary_constant (binary_in w) (constant_of (plain_of a)) z) j
constants_same role names (node forms.BandNode w f l (more a (more b none))) h r v =
    let ps = more a (more b none) in
    let t = node forms.BandNode w f l ps in
    let q = parts_stay role t (kind_at (marked names t)) (marked_parts forms.BandNode ps names true ps)
    (λ x y p. used_free (kind_at (marked names t)) v) r in
    let nb = behind names a in
    let i = constants_same Free names a h.1 q.0 (free_no_vector a names h.1 q.0) in
    let j = constants_same Free nb b h.2 q.1.0 (free_no_vector b nb h.2 q.1.0) in
    ap (λ z. binary_constant (binary_in w) z (constant_of (scalar (marked nb b)))) i ∙
    ap (λ z. binary_constant (binary_in w) (constant_of (plain_of a)) z) j
constants_same role names (node forms.EqualNode w f l (more a (more b none))) h r v =
    let ps = more a (more b none) in
    let t = node forms.EqualNode w f l ps in
    let q = parts_stay role t (kind_at (marked names t)) (marked_parts forms.EqualNode ps names true ps)
    (λ x y p. used_free (kind_at (marked names t)) v) r in
    let nb = behind names a in
    let i = constants_same Free names a h.1 q.0 (free_no_vector a names h.1 q.0) in
    let j = constants_same Free nb b h.2 q.1.0 (free_no_vector b nb h.2 q.1.0) in
    ap (λ z. binary_constant (binary_in w) z (constant_of (scalar (marked nb b)))) i ∙
    ap (λ z. binary_constant (binary_in w) (constant_of (plain_of a)) z) j
constants_same role names (node forms.OrderNode w f l (more a (more b none))) h r v =
    let ps = more a (more b none) in
    let t = node forms.OrderNode w f l ps in
    let q = parts_stay role t (kind_at (marked names t)) (marked_parts forms.OrderNode ps names true ps)
    (λ x y p. used_free (kind_at (marked names t)) v) r in
    let nb = behind names a in
    let i = constants_same Free names a h.1 q.0 (free_no_vector a names h.1 q.0) in
    let j = constants_same Free nb b h.2 q.1.0 (free_no_vector b nb h.2 q.1.0) in
    ap (λ z. binary_constant (binary_in w) z (constant_of (scalar (marked nb b)))) i ∙
    ap (λ z. binary_constant (binary_in w) (constant_of (plain_of a)) z) j
constants_same role names (node forms.ShiftNode w f l (more a (more b none))) h r v =
    let ps = more a (more b none) in
    let t = node forms.ShiftNode w f l ps in
    let q = parts_stay role t (kind_at (marked names t)) (marked_parts forms.ShiftNode ps names true ps)
    (λ x y p. used_free (kind_at (marked names t)) v) r in
    let nb = behind names a in
    let i = constants_same Free names a h.1 q.0 (free_no_vector a names h.1 q.0) in
    let j = constants_same Free nb b h.2 q.1.0 (free_no_vector b nb h.2 q.1.0) in
    ap (λ z. binary_constant (binary_in w) z (constant_of (scalar (marked nb b)))) i ∙
    ap (λ z. binary_constant (binary_in w) (constant_of (plain_of a)) z) j
constants_same role names (node forms.TermNode w f l (more a (more b none))) h r v =
    let ps = more a (more b none) in
    let t = node forms.TermNode w f l ps in
    let q = parts_stay role t (kind_at (marked names t)) (marked_parts forms.TermNode ps names true ps)
    (λ x y p. used_free (kind_at (marked names t)) v) r in
    let nb = behind names a in
    let i = constants_same Free names a h.1 q.0 (free_no_vector a names h.1 q.0) in
    let j = constants_same Free nb b h.2 q.1.0 (free_no_vector b nb h.2 q.1.0) in
    ap (λ z. binary_constant (binary_in w) z (constant_of (scalar (marked nb b)))) i ∙
    ap (λ z. binary_constant (binary_in w) (constant_of (plain_of a)) z) j
constants_same role names (node forms.SumNode w f l (more a (more b none))) h r v =
    let ps = more a (more b none) in
    let t = node forms.SumNode w f l ps in
    let q = parts_stay role t (kind_at (marked names t)) (marked_parts forms.SumNode ps names true ps)
    (λ x y p. used_free (kind_at (marked names t)) v) r in
    let nb = behind names a in
    let i = constants_same Free names a h.1 q.0 (free_no_vector a names h.1 q.0) in
    let j = constants_same Free nb b h.2 q.1.0 (free_no_vector b nb h.2 q.1.0) in
    sum_same (kind_at (marked names a)) (kind_at (marked nb b)) w f l ps (scalar (marked names a)) (scalar (marked nb
    b))
    (plain_of a) (plain_of b) i j (pointer_none names a h.1) (pointer_none nb b h.2)
constants_same role names (node forms.CastNode w f l (more a (more b none))) h r v =
    let ps = more a (more b none) in
    let t = node forms.CastNode w f l ps in
    let ms = marked_parts forms.CastNode ps names true ps in
    let o = vector_type (tree_at (marked names a)) in
    let e = no_cast o v in
    let q = parts_stay role t (kind_at (marked names t)) ms
    (λ x y p. ap (λ z. if is_some z && is_paren (back_form ms) then (if x then Typed else Listed) else Free) e) r in
    let nb = behind names a in
    let j = constants_same Free nb b h.1 q.1.0 (free_no_vector b nb h.1 q.1.0) in
    ap (λ z. cast_constant (declared_in z) (constant_of (scalar (marked nb b)))) (type_same names a h.0) ∙
    ap (λ z. cast_constant (declared_in (plain_of a)) z) j
constants_same role names (node forms.UnaryNode w f l (more a none)) h r v =
    let t = node forms.UnaryNode w f l (more a none) in
    let k = kind_at (marked names t) in
    let ma = marked names a in
    let q = part_none role t k ma r in
    unary_same (prefix_in w) (kind_at ma) w f l (more a none) (scalar ma) (plain_of a) refl
    (λ op e. let i = subst (λ o. PrefixOf o a (IsExpressionOf true a)) e h in
    let g = subst (λ z. refusals z ma ≡ []) (ap (λ o. operand_role o k ma) e ∙ used_free k v) q in
    constants_same Free names a i g (free_no_vector a names i g))
    (λ e. type_same names a (subst (λ o. PrefixOf o a (IsExpressionOf true a)) e h))
constants_same role names (node forms.PostfixNode w f l (more a none)) (inl h) r v =
    step_none names w f l a h.0 ∙ sym (either_none (is_pointed w) w f l (plain_of a)
    (λ e. absurd (false≢true (sym (postfix_unpointed w h.0) ∙ e))))
constants_same role names (node forms.PostfixNode w f l (more a none)) (inr h) r v =
    let i = selected_none names w f l a h.0 (place_none names a h.1 (selected_place role names w f l a h.1 h.0 r v)) in
    i.whole ∙ sym i.plain
constants_same role names (node forms.PostfixNode w f l (more a (more b none))) h r v =
    indexed_none (kind_at (marked names a)) (kind_at (marked (behind names a) b)) w f l (more a (more b none))
    (scalar (marked names a)) (scalar (marked (behind names a) b))
constants_same role names (node forms.CallNode w f l parts) h r v =
    called_none w f l (kind_at (marked names (node forms.CallNode w f l parts))) parts (marked_parts forms.CallNode
    parts (within forms.CallNode w names) true parts) ∙ sym (call_none w f l (plains_of parts))
constants_same role names t h r v = absurd h
