-- The names that an expression without vectors names are those of the source and of components of its variables: none
-- of them begins with a point, as those of helping variables do.
use Rattle.std.proofs.Common.{◌≡◌, ℕ, List, [], ◌∷◌, ◌++◌, Option, Some, None, Bool, true, false, not}
use Rattle.std.proofs.Common.{if◌then◌else◌, refl, ap, sym, ◌∙◌}
use Rattle.std.proofs.lemmas.Bool.{false≢true}
use Rattle.std.specs.Prelude.{codes, decimal}
use Rattle.std.specs.List.{position_or_len}
use Rattle.std.proofs.Common.{subst, take, cond, ◌+◌, suc, arith}
use Rattle.wg_num.specs.declared.types.Bin.{Bin}
use Rattle.wg_num.specs.declared.types.Bin.TheVariants as bins
use Rattle.cl_tree.specs.declared.tree.Form.{Form}
use Rattle.cl_tree.specs.declared.tree.Form.TheVariants as forms
use Rattle.cl_tree.specs.Syntax.{Syntax, node, Forest, none, more}
use Rattle.cl_tree.specs.Nodes.{forest1}
use Rattle.cl_meaning.specs.OwnWords.{is_blank}
use Rattle.cl_meaning.specs.Spelling.{name_in, prefix_in, postfix_in, setting_in}
use Rattle.cl_meaning.specs.Declarations.{form_of, word_of}
use Rattle.cl_meaning.specs.Environment.{Env, meaning_of}
use Rattle.cl_meaning.specs.declared.operators.Prefix.{Prefix}
use Rattle.cl_meaning.specs.declared.operators.Prefix.TheVariants as prefixes
use Rattle.cl_meaning.specs.declared.operators.Postfix.{Postfix}
use Rattle.cl_meaning.specs.declared.operators.Postfix.TheVariants as postfixes
use Rattle.cl_meaning.specs.declared.operators.Setting.{Setting}
use Rattle.cl_meaning.specs.declared.operators.Setting.TheVariants as settings
use Rattle.cl_short_vec.specs.declared.nodes.Span.{Span}
use Rattle.cl_short_vec.specs.declared.types.Vector.{Vector}
use Rattle.cl_short_vec.specs.declared.kinds.Kind.{Kind}
use Rattle.cl_short_vec.specs.declared.kinds.Kind.TheVariants.{Pointer, Other}
use Rattle.cl_short_vec.specs.Plain.{is_pointed}
use Rattle.cl_short_vec.specs.Kinds.{Names, within, later}
use Rattle.cl_short_vec.specs.Marks.{Mark, mark, Marks, unmarked, marking, kind_at, marked, marked_parts}
use Rattle.cl_short_vec.specs.Order.{is_through}
use Rattle.cl_short_vec.specs.Nodes.{span_of, with_parts, scaled, component_name}
use Rattle.cl_short_vec.specs.Nodes.{operator_form, operator_word}
use Rattle.cl_short_vec.specs.Scalar.{leaf_by, opposite, prefixed, postfixed, one_by, moved_by, two_by}
use Rattle.cl_short_vec.specs.Scalar.{one_component, element_component, content_component, chosen_or}
use Rattle.cl_short_vec.specs.Scalar.{scalar, scalars, component_at}
use Rattle.cl_short_vec.specs.Unit.{address_at}
use Rattle.cl_short_vec_correct.specs.Sources.{is_sourced, NamedBy, Sourced, AllSourced}
use Rattle.cl_short_vec_correct.proofs.Alike.{SameName, SameNames, AllSame}

-- ---- trees without vectors

abbrev mutual
  pub Unpointed : Syntax → Type 0
  Unpointed (node form w f l parts) = NamedBy form w × AllUnpointed parts

  pub AllUnpointed : Forest → Type 0
  AllUnpointed none = Unit {0}
  AllUnpointed (more p ps) = Unpointed p × AllUnpointed ps

-- where all other names stand for the same
own_same : (form : Form) (a b : Env) (w : List ℕ) →
    ((q : List ℕ) → is_sourced q ≡ true → meaning_of a q ≡ meaning_of b q) → NamedBy form w → SameName a b form w
own_same forms.VariableNode a b w g h = g (name_in w) h
own_same forms.CallNode a b w g h = g (name_in w) h
own_same _ a b w g h = tt

mutual
  pub names_same : (t : Syntax) (a b : Env) →
      ((q : List ℕ) → is_sourced q ≡ true → meaning_of a q ≡ meaning_of b q) → Unpointed t → SameNames a b t
  names_same (node form w f l parts) a b g h = (own_same form a b w g h.0, all_names_same parts a b g h.1)

  all_names_same : (parts : Forest) (a b : Env) →
      ((q : List ℕ) → is_sourced q ≡ true → meaning_of a q ≡ meaning_of b q) → AllUnpointed parts → AllSame a b parts
  all_names_same none a b g h = tt
  all_names_same (more p ps) a b g h = (names_same p a b g h.0, all_names_same ps a b g h.1)

-- ---- names of components

-- a name goes on until the first blank
pub name_more : (b : ℕ) (w : List ℕ) → is_blank b ≡ false → name_in (b ∷ w) ≡ b ∷ name_in w
name_more b w e = ap (λ z. take (cond (not z) (1 + position_or_len is_blank w) 0) (b ∷ w)) e ∙
    ap (λ n. take n (b ∷ w)) (one_behind (position_or_len is_blank w))
  where
    one_behind : (n : ℕ) → 1 + n ≡ suc n
    one_behind n = omega arith

name_ends : (b : ℕ) (w : List ℕ) → is_blank b ≡ true → name_in (b ∷ w) ≡ []
name_ends b w e = ap (λ z. take (cond (not z) (1 + position_or_len is_blank w) 0) (b ∷ w)) e

pub component_sourced : (w : List ℕ) (c : ℕ) → is_sourced (name_in w) ≡ true →
    is_sourced (name_in (component_name (name_in w) c)) ≡ true
component_sourced [] c h = absurd (false≢true h)
component_sourced (b ∷ w) c h = by (is_blank b) refl
  where
    Goal : List ℕ → Type 0
    Goal name = is_sourced (name_in (component_name name c)) ≡ true

    by : (z : Bool) → is_blank b ≡ z → Goal (name_in (b ∷ w))
    by true e = absurd (false≢true (ap is_sourced (sym (name_ends b w e)) ∙ h))
    by false e = subst Goal (sym (name_more b w e))
        (ap is_sourced (name_more b (name_in w ++ (codes "." ++ decimal c)) e) ∙
        (ap is_sourced (sym (name_more b w e)) ∙ h))

-- ---- nodes

pub parts_unpointed : (t : Syntax) (parts : Forest) → NamedBy (form_of t) (word_of t) → AllUnpointed parts →
    Unpointed (with_parts t parts)
parts_unpointed (node form w f l ps) parts n h = (n, h)

scaled_unpointed : (v : Vector) (i : Syntax) → Unpointed i → Unpointed (scaled v i)
scaled_unpointed v i h = (tt, ((tt, ((tt, tt), ((tt, (h, tt)), tt))), ((tt, tt), tt)))

-- an operator names nothing
joined_named : (op : Bin) (w : List ℕ) → NamedBy (operator_form op) w
joined_named bins.Mul w = tt
joined_named bins.Div w = tt
joined_named bins.Rem w = tt
joined_named bins.Add w = tt
joined_named bins.Sub w = tt
joined_named bins.Shl w = tt
joined_named bins.Shr w = tt
joined_named bins.And w = tt
joined_named bins.Xor w = tt
joined_named bins.Or w = tt
joined_named bins.Eq w = tt
joined_named bins.Ne w = tt
joined_named bins.Lt w = tt
joined_named bins.Le w = tt
joined_named bins.Gt w = tt
joined_named bins.Ge w = tt

prefixed_unpointed : (o : Option Prefix) (k : Kind) (t p : Syntax) → NamedBy (form_of t) (word_of t) → Unpointed p →
    Unpointed (prefixed o k t p)
prefixed_unpointed (Some prefixes.Content) (Pointer space c v) t p n h = (tt, ((tt, (h, tt)), ((tt, tt), tt)))
prefixed_unpointed (Some (prefixes.Step op)) (Pointer space c v) t p n h = (tt, ((tt, (h, ((tt, tt), tt))), tt))
prefixed_unpointed o k t p n h = parts_unpointed t (forest1 p) n (h, tt)

postfixed_unpointed : (o : Option Postfix) (k : Kind) (t p : Syntax) → NamedBy (form_of t) (word_of t) → Unpointed p →
    Unpointed (postfixed o k t p)
postfixed_unpointed (Some (postfixes.Step op)) (Pointer space c v) t p n h = (
  tt,
  (
    (
      joined_named (opposite op) (operator_word (opposite op)),
      ((tt, ((tt, (h, ((tt, tt), tt))), tt)), ((tt, tt), tt)),
    ),
    tt,
  ),
)
postfixed_unpointed o k t p n h = parts_unpointed t (forest1 p) n (h, tt)

-- of one part, and of two
one_unpointed : (k : Kind) (form : Form) (w : List ℕ) (f l : ℕ) (ps : Forest) (p : Syntax) → NamedBy form w →
    Unpointed p → Unpointed (one_by form k (node form w f l ps) p)
one_unpointed k forms.TypeNode w f l ps p n h = (tt, (h, tt))
one_unpointed k forms.UnaryNode w f l ps p n h =
    prefixed_unpointed (prefix_in w) k (node forms.UnaryNode w f l ps) p n h
one_unpointed k forms.PostfixNode w f l ps p n h = by (is_pointed w)
  where
    by : (z : Bool) → Unpointed (if z then p else postfixed (postfix_in w) k (node forms.PostfixNode w f l ps) p)
    by true = h
    by false = postfixed_unpointed (postfix_in w) k (node forms.PostfixNode w f l ps) p n h
one_unpointed k _ w f l ps p n h = (n, (h, tt))

moved_unpointed : (o : Option Setting) (v : Vector) (b : Syntax) → Unpointed b → Unpointed (moved_by o v b)
moved_unpointed (Some (settings.With op)) v b h = scaled_unpointed v b h
moved_unpointed o v b h = h

two_unpointed : (form : Form) (j k : Kind) (w : List ℕ) (f l : ℕ) (ps : Forest) (a b : Syntax) → NamedBy form w →
    Unpointed a → Unpointed b → Unpointed (two_by form j k (node form w f l ps) a b)
two_unpointed forms.PostfixNode (Pointer space c v) k w f l ps a b n h i = (tt, (h, (scaled_unpointed v b i, tt)))
two_unpointed forms.PostfixNode j k w f l ps a b n h i = (n, (h, (i, tt)))
two_unpointed forms.AssignNode (Pointer space c v) (Other y) w f l ps a b n h i =
    (tt, (h, (moved_unpointed (setting_in w) v b i, tt)))
two_unpointed forms.AssignNode j k w f l ps a b n h i = (n, (h, (i, tt)))
two_unpointed forms.SumNode (Pointer space c v) (Other y) w f l ps a b n h i = (tt, (h, (scaled_unpointed v b i, tt)))
two_unpointed forms.SumNode (Other y) (Pointer space c v) w f l ps a b n h i = (tt, (scaled_unpointed v a h, (i, tt)))
two_unpointed forms.SumNode j k w f l ps a b n h i = (n, (h, (i, tt)))
two_unpointed _ j k w f l ps a b n h i = (n, (h, (i, tt)))

-- ---- components

element_unpointed : (form : Form) (j : Kind) (c : ℕ) (s : Span) (w : List ℕ) (f l : ℕ) (ps : Forest) (a b : Syntax) →
    NamedBy form w → Unpointed a → Unpointed b →
    Unpointed (element_component form j c s (node form w f l ps) a b)
element_unpointed forms.PostfixNode (Pointer space d v) c s w f l ps a b n h i =
    (tt, (h, ((tt, (scaled_unpointed v b i, ((tt, tt), tt))), tt)))
element_unpointed forms.PostfixNode j c s w f l ps a b n h i = (n, (h, (i, tt)))
element_unpointed _ j c s w f l ps a b n h i = (n, (h, (i, tt)))

content_unpointed : (form : Form) (o : Option Prefix) (j : Kind) (c : ℕ) (s : Span) (w : List ℕ) (f l : ℕ)
    (ps : Forest) (p : Syntax) → NamedBy form w → Unpointed p →
    Unpointed (content_component form o j c s (node form w f l ps) p)
content_unpointed forms.UnaryNode (Some prefixes.Content) (Pointer space d v) c s w f l ps p n h =
    (tt, ((tt, (h, tt)), ((tt, ((tt, tt), ((tt, tt), tt))), tt)))
content_unpointed forms.UnaryNode o j c s w f l ps p n h = (n, (h, tt))
content_unpointed _ o j c s w f l ps p n h = (n, (h, tt))

-- ---- marks

-- the words of a tree that is marked, as those of a source are
abbrev mutual
  pub SourcedMark : Mark → Type 0
  SourcedMark (mark (node form w f l ps) k unmarked) = is_sourced (name_in w) ≡ true
  SourcedMark (mark (node form w f l ps) k (marking m ms)) = NamedBy form w × (SourcedMark m × SourcedMarks ms)

  pub SourcedMarks : Marks → Type 0
  SourcedMarks unmarked = Unit {0}
  SourcedMarks (marking m ms) = SourcedMark m × SourcedMarks ms

mutual
  unfolding marked marked_parts

  pub marked_sourced : (t : Syntax) (names : Names) → Sourced t → SourcedMark (marked names t)
  marked_sourced (node form w f l none) names h = h
  marked_sourced (node form w f l (more p ps)) names h =
      let inner = within form w names in (
        h.0,
        (
          marked_sourced p inner h.1.0,
          all_marked_sourced ps form (more p ps) (later form (more p ps) inner true p) false h.1.1,
        ),
      )

  all_marked_sourced : (parts : Forest) (form : Form) (all : Forest) (names : Names) (front : Bool) →
      AllSourced parts → SourcedMarks (marked_parts form all names front parts)
  all_marked_sourced none form all names front h = tt
  all_marked_sourced (more p ps) form all names front h =
      (marked_sourced p names h.0, all_marked_sourced ps form all (later form all names front p) false h.1)

leaf_unpointed : (form : Form) (w : List ℕ) (f l : ℕ) (ps : Forest) → is_sourced (name_in w) ≡ true →
    Unpointed (leaf_by form (node form w f l ps))
leaf_unpointed forms.TypeNode w f l ps h = (tt, tt)
leaf_unpointed forms.VariableNode w f l ps h = (h, tt)
leaf_unpointed forms.CallNode w f l ps h = (h, tt)
leaf_unpointed _ w f l ps h = (tt, tt)

chosen_unpointed : (o : Option ℕ) (g : ℕ → Syntax) (t : Syntax) → ((c : ℕ) → Unpointed (g c)) → Unpointed t →
    Unpointed (chosen_or o g t)
chosen_unpointed None g t h k = k
chosen_unpointed (Some c) g t h k = h c

through_unpointed : (z : Bool) (a b : Syntax) → Unpointed a → Unpointed b → Unpointed (if z then a else b)
through_unpointed true a b h i = h
through_unpointed false a b h i = i

mutual
  unfolding scalar scalars component_at

  pub scalar_unpointed : (m : Mark) → SourcedMark m → Unpointed (scalar m)
  scalar_unpointed (mark (node form w f l ps) k unmarked) h = leaf_unpointed form w f l ps h
  scalar_unpointed (mark (node form w f l ps) k (marking a unmarked)) h =
      chosen_unpointed (one_component (mark (node form w f l ps) k (marking a unmarked)))
      (λ c. component_at c (span_of (node form w f l ps)) a)
      (one_by form (kind_at a) (node form w f l ps) (scalar a))
      (λ c. component_unpointed a c (span_of (node form w f l ps)) h.1.0)
      (one_unpointed (kind_at a) form w f l ps (scalar a) h.0 (scalar_unpointed a h.1.0))
  scalar_unpointed (mark (node form w f l ps) k (marking a (marking b unmarked))) h =
      two_unpointed form (kind_at a) (kind_at b) w f l ps (scalar a) (scalar b) h.0 (scalar_unpointed a h.1.0)
      (scalar_unpointed b h.1.1.0)
  scalar_unpointed (mark (node form w f l ps) k (marking a (marking b (marking c others)))) h =
      (h.0, scalars_unpointed (marking a (marking b (marking c others))) h.1)

  pub scalars_unpointed : (ms : Marks) → SourcedMarks ms → AllUnpointed (scalars ms)
  scalars_unpointed unmarked h = tt
  scalars_unpointed (marking m ms) h = (scalar_unpointed m h.0, scalars_unpointed ms h.1)

  pub component_unpointed : (m : Mark) (c : ℕ) (s : Span) → SourcedMark m → Unpointed (component_at c s m)
  component_unpointed (mark (node form w f l ps) k unmarked) c s h = (component_sourced w c h, tt)
  component_unpointed (mark (node form w f l ps) k (marking a unmarked)) c s h =
      through_unpointed (is_through (node form w f l ps)) (component_at c s a)
      (content_component form (prefix_in w) (kind_at a) c s (node form w f l ps) (scalar a))
      (component_unpointed a c s h.1.0)
      (content_unpointed form (prefix_in w) (kind_at a) c s w f l ps (scalar a) h.0 (scalar_unpointed a h.1.0))
  component_unpointed (mark (node form w f l ps) k (marking a (marking b unmarked))) c s h =
      element_unpointed form (kind_at a) c s w f l ps (scalar a) (scalar b) h.0 (scalar_unpointed a h.1.0)
      (scalar_unpointed b h.1.1.0)
  component_unpointed (mark (node form w f l ps) k (marking a (marking b (marking d others)))) c s h =
      (h.0, scalars_unpointed (marking a (marking b (marking d others))) h.1)

pub address_unpointed : (m : Mark) → SourcedMark m → Unpointed (address_at m)
address_unpointed m h = (tt, (scalar_unpointed m h, tt))
