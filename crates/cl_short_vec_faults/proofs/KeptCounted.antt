-- What stands for a node is that node with other parts, or what is counted in components.
use Rattle.std.proofs.Common.{◌≡◌, ℕ, List, Option, None, Some, Bool, true, false, if◌then◌else◌, refl, ap, sym, ◌∙◌}
use Rattle.std.proofs.Common.{◌⊎◌, inl, inr}
use Rattle.cl_tree.specs.declared.tree.Form.{Form}
use Rattle.cl_tree.specs.declared.tree.Form.TheVariants as forms
use Rattle.cl_tree.specs.Syntax.{Syntax, node, Forest}
use Rattle.cl_tree.specs.Nodes.{forest1, forest2}
use Rattle.cl_meaning.specs.Spelling.{setting_in, prefix_in, postfix_in}
use Rattle.cl_meaning.specs.Declarations.{form_of, word_of}
use Rattle.cl_meaning.specs.declared.operators.Prefix.{Prefix}
use Rattle.cl_meaning.specs.declared.operators.Prefix.TheVariants as prefixes
use Rattle.cl_meaning.specs.declared.operators.Postfix.{Postfix}
use Rattle.cl_meaning.specs.declared.operators.Postfix.TheVariants as postfixes
use Rattle.cl_meaning.specs.declared.operators.Setting.{Setting}
use Rattle.cl_meaning.specs.declared.operators.Setting.TheVariants as settings
use Rattle.cl_short_vec.specs.declared.types.Vector.{Vector}
use Rattle.cl_short_vec.specs.declared.kinds.Kind.{Kind}
use Rattle.cl_short_vec.specs.declared.kinds.Kind.TheVariants.{Pointer, Other}
use Rattle.cl_short_vec.specs.Plain.{is_pointed}
use Rattle.cl_short_vec.specs.Marks.{Mark, mark, Marks, unmarked, marking, kind_at}
use Rattle.cl_short_vec.specs.Nodes.{with_parts}
use Rattle.cl_short_vec.specs.Scalar.{prefixed, postfixed, one_by, moved_by, two_by}
use Rattle.cl_short_vec_faults.specs.Kept.{renewed, counted_prefix, counted_postfix, counted_one, counted_setting}
use Rattle.cl_short_vec_faults.specs.Kept.{counted_two, counted_parts, counted_or}
use Rattle.std.proofs.lemmas.Bool.{false≢true}
use Rattle.cl_short_vec.specs.Types.{selection_in}
use Rattle.cl_short_vec.specs.Faults.{components_of}
use Rattle.cl_short_vec.specs.Scalar.{one_selected, one_component, scalar, scalars}
use Rattle.cl_short_vec_faults.specs.Kept.{Stays, AllStay}

-- ---- nodes

-- a selection, by its production and its own words
abbrev pub is_selecting : Form → List ℕ → Bool
is_selecting forms.PostfixNode w = is_pointed w
is_selecting form w = false

prefixed_kept : (o : Option Prefix) (k : Kind) (t p : Syntax) →
    prefixed o k t p ≡ counted_or (counted_prefix o k t p) (with_parts t (forest1 p))
prefixed_kept (Some prefixes.Content) (Pointer s c v) t p = refl
prefixed_kept (Some (prefixes.Step op)) (Pointer s c v) t p = refl
prefixed_kept o k t p = refl

postfixed_kept : (o : Option Postfix) (k : Kind) (t p : Syntax) →
    postfixed o k t p ≡ counted_or (counted_postfix o k t p) (with_parts t (forest1 p))
postfixed_kept (Some (postfixes.Step op)) (Pointer s c v) t p = refl
postfixed_kept o k t p = refl

-- what stands for a node of one part, of which no component is selected
abbrev pub OneKept : Form → Kind → Syntax → Syntax → Syntax → Type 0
OneKept form k t p u = (u ≡ counted_or (counted_one form k t p) (renewed form t (forest1 p))) ⊎
    ((is_selecting form (word_of t) ≡ true) × (u ≡ p))

pub one_kept : (form : Form) (k : Kind) (t p : Syntax) → OneKept form k t p (one_by form k t p)
one_kept forms.TypeNode k t p = inl refl
one_kept forms.UnaryNode k t p = inl (prefixed_kept (prefix_in (word_of t)) k t p)
one_kept forms.PostfixNode k t p = by (is_pointed (word_of t)) refl
  where
    by : (b : Bool) → is_pointed (word_of t) ≡ b →
        OneKept forms.PostfixNode k t p (if b then p else postfixed (postfix_in (word_of t)) k t p)
    by true e = inr (e, refl)
    by false e = inl (postfixed_kept (postfix_in (word_of t)) k t p)
one_kept form k t p = inl refl

setting_kept : (o : Option Setting) (v : Vector) (t a b : Syntax) →
    with_parts t (forest2 a (moved_by o v b)) ≡ counted_or (counted_setting o v t a b) (with_parts t (forest2 a b))
setting_kept (Some (settings.With op)) v t a b = refl
setting_kept o v t a b = refl

pub two_kept : (form : Form) (j k : Kind) (t a b : Syntax) →
    two_by form j k t a b ≡ counted_or (counted_two form j k t a b) (renewed form t (forest2 a b))
two_kept forms.PostfixNode (Pointer s c v) k t a b = refl
two_kept forms.AssignNode (Pointer s c v) (Other y) t a b = setting_kept (setting_in (word_of t)) v t a b
two_kept forms.SumNode (Pointer s c v) (Other y) t a b = refl
two_kept forms.SumNode (Other y) (Pointer s c v) t a b = refl
two_kept form j k t a b = refl

pub two_stays : (t : Syntax) (k : Kind) (a b : Mark) (p q u : Syntax) →
    one_component (mark t k (marking a (marking b unmarked))) ≡ None →
    u ≡ counted_or (counted_two (form_of t) (kind_at a) (kind_at b) t p q) (renewed (form_of t) t (forest2 p q)) →
    Stays a p → Stays b q → Stays (mark t k (marking a (marking b unmarked))) u
two_stays t k a b p q u e h x y = inl (e, (forest2 p q, h, (x, (y, tt))))

-- ---- nodes whose parts are not counted

abbrev pub is_counting : Form → Bool
is_counting forms.TypeNode = true
is_counting forms.UnaryNode = true
is_counting forms.PostfixNode = true
is_counting forms.AssignNode = true
is_counting forms.SumNode = true
is_counting form = false

scalar_renewed : (form : Form) (w : List ℕ) (f l : ℕ) (ps : Forest) (k : Kind) (ms : Marks) →
    is_counting form ≡ false →
    scalar (mark (node form w f l ps) k ms) ≡ renewed form (node form w f l ps) (scalars ms)
unfolding scalar scalars
scalar_renewed forms.TypeNode w f l ps k ms e = absurd (false≢true (sym e))
scalar_renewed forms.UnaryNode w f l ps k ms e = absurd (false≢true (sym e))
scalar_renewed forms.PostfixNode w f l ps k ms e = absurd (false≢true (sym e))
scalar_renewed forms.AssignNode w f l ps k ms e = absurd (false≢true (sym e))
scalar_renewed forms.SumNode w f l ps k ms e = absurd (false≢true (sym e))
scalar_renewed form w f l ps k unmarked e = refl
scalar_renewed form w f l ps k (marking a unmarked) e = refl
scalar_renewed form w f l ps k (marking a (marking b unmarked)) e = refl
scalar_renewed form w f l ps k (marking a (marking b (marking c ms))) e = refl

none_selected : (form : Form) (o : Option (List ℕ)) (cs : List ℕ) → is_counting form ≡ false →
    one_selected form o cs ≡ None
none_selected forms.PostfixNode o cs e = absurd (false≢true (sym e))
none_selected form o cs e = refl

none_counted : (form : Form) (w : List ℕ) (f l : ℕ) (ps : Forest) (ms : Marks) → is_counting form ≡ false →
    counted_parts (node form w f l ps) ms (scalars ms) ≡ None
unfolding scalar scalars
none_counted forms.UnaryNode w f l ps ms e = absurd (false≢true (sym e))
none_counted forms.PostfixNode w f l ps ms e = absurd (false≢true (sym e))
none_counted forms.AssignNode w f l ps ms e = absurd (false≢true (sym e))
none_counted forms.SumNode w f l ps ms e = absurd (false≢true (sym e))
none_counted form w f l ps unmarked e = refl
none_counted form w f l ps (marking a unmarked) e = refl
none_counted form w f l ps (marking a (marking b unmarked)) e = refl
none_counted form w f l ps (marking a (marking b (marking c ms))) e = refl

pub node_stays : (form : Form) (w : List ℕ) (f l : ℕ) (ps : Forest) (k : Kind) (ms : Marks) →
    is_counting form ≡ false → AllStay ms (scalars ms) →
    Stays (mark (node form w f l ps) k ms) (scalar (mark (node form w f l ps) k ms))
node_stays form w f l ps k ms e h =
    let t = node form w f l ps in inl (
      none_selected form (selection_in w) (components_of (mark t k ms)) e,
      (
        scalars ms,
        scalar_renewed form w f l ps k ms e ∙
            sym (ap (λ o. counted_or o (renewed form t (scalars ms))) (none_counted form w f l ps ms e)),
        h,
      ),
    )
