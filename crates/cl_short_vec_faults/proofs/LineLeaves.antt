-- The lines of leaves are at fault at no node, and declare helping variables: pointers to elements, numbers, and
-- components of variables and of elements.
use Rattle.std.proofs.Common.{◌≡◌, ℕ, ◌≤◌, ◌<◌, Bool, true, false, not, List, [], length, Option, Some, None, refl, ap}
use Rattle.std.proofs.Common.{sym, ◌∙◌, subst}
use Rattle.std.specs.Prelude.{codes}
use Rattle.wg_num.specs.declared.types.IntType.{IntType}
use Rattle.wg_num.specs.declared.types.IntType.TheVariants as types
use Rattle.cl_model.specs.declared.program.Root.{Root}
use Rattle.cl_model.specs.declared.program.Space.{Space}
use Rattle.cl_tree.specs.declared.tree.Form.TheVariants as forms
use Rattle.cl_tree.specs.Syntax.{Syntax, node, none}
use Rattle.cl_tree.specs.Nodes.{forest1, forest2}
use Rattle.cl_meaning.specs.Spelling.{name_in}
use Rattle.cl_meaning.specs.Types.{is_outside_base}
use Rattle.cl_meaning.specs.Operators.{prefix_in}
use Rattle.cl_meaning.specs.declared.types.Declared.{Declared}
use Rattle.cl_meaning.specs.declared.kind.Each.TheVariants as each
use Rattle.cl_meaning.specs.declared.kind.Reach.{Reach}
use Rattle.cl_meaning.specs.declared.kind.Reach.TheVariants as reach
use Rattle.cl_meaning.specs.declared.kind.Kind.TheVariants as kinds
use Rattle.cl_meaning.specs.declared.kind.Meaning.{Meaning}
use Rattle.cl_meaning.specs.declared.kind.Meaning.TheVariants as meanings
use Rattle.cl_meaning.specs.declared.kind.Role.TheVariants as roles
use Rattle.cl_meaning.specs.Environment.{Env, meaning_of, is_declared}
use Rattle.cl_meaning.specs.Kinds.{is_some, on_one, name_kind, kind_of_meaning, kind_step}
use Rattle.cl_meaning.specs.Visible.{behind, kind_of}
use Rattle.cl_meaning.specs.Faults.{Asked, misfits}
use Rattle.cl_check_sound.specs.Shape.{IsExpressionOf}
use Rattle.cl_check_sound.specs.Sound.{SoundTree}
use Rattle.cl_check_sound.proofs.Neutral.{behind_type}
use Rattle.cl_short_vec.specs.declared.nodes.Span.{Span}
use Rattle.cl_short_vec.specs.declared.types.Vector.{Vector}
use Rattle.cl_short_vec.specs.declared.kinds.Reach.TheVariants.{Variable, Element}
use Rattle.cl_short_vec.specs.declared.kinds.Kind.TheVariants.{Vectors}
use Rattle.cl_short_vec.specs.declared.roles.Role as vector_roles
use Rattle.cl_short_vec.specs.Kinds.{Names}
use Rattle.cl_short_vec.specs.Marks.{Mark, tree_at, kind_at, marked}
use Rattle.cl_short_vec.specs.Roles.{is_place, is_element}
use Rattle.cl_short_vec.specs.Faults.{refusals}
use Rattle.cl_short_vec.specs.Nodes.{span_of, at, variable_at, long_at, type_word, typed_at, constant_word, space_word}
use Rattle.cl_short_vec.specs.Nodes.{spaced_at, declared_at, star_at, component_name, helper}
use Rattle.cl_short_vec.specs.Order.{Named, Step, Offset, Number, Copy, Load, type_in}
use Rattle.cl_short_vec.specs.Scalar.{scalar}
use Rattle.cl_short_vec.specs.Unit.{pointed_at, address_at, offset_line, number_line, copy_line, helped_element}
use Rattle.cl_short_vec.specs.Unit.{load_line}
use Rattle.cl_short_vec_faults.specs.PlainForm.{plain_of}
use Rattle.cl_short_vec_faults.specs.Plainly.{has_point, unnumbered, NoPoint, StandsAlike, Plainly}
use Rattle.cl_short_vec_faults.specs.Law.{is_of_vectors, KindAs, Called}
use Rattle.cl_short_vec_faults.specs.Parts.{StandsForNumber, StandsForPointer, HelpedBy}
use Rattle.cl_short_vec_faults.proofs.LineKeeps.{step_name}
use Rattle.cl_short_vec_faults.proofs.Building.{Good}
use Rattle.cl_short_vec_faults.proofs.Nodes.{leaf_good, one_good}
use Rattle.cl_short_vec_faults.proofs.Made.{long_good, type_good, spaced_good, typed_inside, typed_is}
use Rattle.cl_short_vec_faults.proofs.Counted.{element_good}
use Rattle.cl_short_vec_faults.proofs.Points.{component_point, component_named}
use Rattle.cl_short_vec_faults.proofs.PlainForms.{plain_made}
use Rattle.cl_short_vec_faults.proofs.Kinded.{some_same}
use Rattle.cl_short_vec_faults.proofs.Expressions.{claim, placed}
use Rattle.cl_short_vec_faults.proofs.PartNodes.{unflagged, variable_number, helper_named}
use Rattle.cl_short_vec_faults.proofs.LineWords.{declared_with, typed_declared, spaced_declared, base_word, helper_name}
use Rattle.cl_short_vec_faults.proofs.LineWords.{component_is_name}
use Rattle.cl_short_vec_faults.proofs.LineAdds.{adds_itself}
use Rattle.cl_short_vec_faults.proofs.LineDeclares.{IsTyped, Declares, number_declaration, pointer_declaration}
use Rattle.cl_short_vec_faults.proofs.LineSeen.{called_alike, typed_by, alike_typed, plainly_typed, tree_alike}

-- ---- types

pub type_typed : (asked : Asked) (env : Env) (of : IntType) (s : Span) →
    IsTyped asked env (type_word of) s.first s.last none (declared_with None false of)
type_typed asked env of s = record {
  declares = typed_declared of s;
  same = behind_type env (typed_at of s) (typed_is of s);
  sound = type_good asked env (type_word of) s.first s.last (typed_inside of);
}

pub space_typed : (asked : Asked) (env : Env) (space : Space) (constant : Bool) (of : IntType) (s : Span) →
    IsTyped asked env (constant_word constant of) s.first s.last
    (forest1 (node forms.SpaceNode (space_word space) s.first s.last none)) (declared_with (Some space) constant of)
space_typed asked env space constant of s = record {
  declares = spaced_declared space constant of s;
  same = behind_type env (spaced_at space constant of s) (ap is_some (base_word constant of));
  sound = spaced_good asked env (constant_word constant of) s.first s.last (space_word space) s.first s.last
      (ap is_outside_base (base_word constant of));
}

-- ---- pointers

pointer_meant : (o : Option Meaning) (s : Space) (e : IntType) (c : Bool) (r : Root) (fixed : Bool) →
    unnumbered o ≡ Some (meanings.Pointer s e c r fixed 0) →
    on_one o kind_of_meaning ≡ Some (kinds.Pointer s e c r each.Element (reach.Variable fixed))
pointer_meant (Some (meanings.Pointer s' e' c' r' fixed' x)) s e c r fixed h =
    ap (λ z. on_one z kind_of_meaning) h
pointer_meant None s e c r fixed h = absurd cc
pointer_meant (Some (meanings.Scalar t c' x)) s e c r fixed h = absurd cc
pointer_meant (Some (meanings.Object s' e' c' r')) s e c r fixed h = absurd cc
pointer_meant (Some (meanings.Array s' e' c' r' i)) s e c r fixed h = absurd cc
pointer_meant (Some (meanings.Function n)) s e c r fixed h = absurd cc
pointer_meant (Some meanings.Undefined) s e c r fixed h = absurd cc
pointer_meant (Some meanings.Kernel) s e c r fixed h = absurd cc

-- a helping variable that is a pointer
pub helper_pointer : (asked : Asked) (env : Env) (at : Span) (v : Vector) (s : Space) (c : Bool)
    (h : StandsForPointer (Vectors v (Element s c)) env (helper at)) →
    Good asked env roles.Other (variable_at (helper at) at)
    (kinds.Pointer s v.of c h.0 each.Element (reach.Variable h.1))
unfolding kind_step misfits
helper_pointer asked env at v s c h =
    let q = helper at in
    let k = kinds.Pointer s v.of c h.0 each.Element (reach.Variable h.1) in
    let e : name_kind env (name_in q) ≡ Some k =
    ap (name_kind env) (helper_named at) ∙ unflagged env q (component_point [] at.first) ∙
    pointer_meant (meaning_of env q) s v.of c h.0 h.1 h.2 in
    leaf_good asked env roles.Other forms.VariableNode q at.first at.last k refl refl (record {
      known = ap (λ z. not (is_some z)) e;
      fit = refl;
      tested = refl;
      counted = refl;
      passed = refl;
      assignable = refl;
      written = refl;
      ends = refl;
      rooted = refl;
      flagged = refl;
    }) e

-- a component of an element, by a helping pointer
pub helped_good : (asked : Asked) (env : Env) (at : Span) (n : ℕ) (v : Vector) (s : Space) (c : Bool) → n ≤ 16 →
    (h : StandsForPointer (Vectors v (Element s c)) env (helper at)) →
    Good asked env roles.Other (helped_element at n) (kinds.Number v.of (reach.Element s c h.0))
helped_good asked env at n v s c l h =
    element_good asked env roles.Other at (variable_at (helper at) at) (long_at n at) s v.of c h.0
    (reach.Variable h.1) types.Long reach.Value (helper_pointer asked env at v s c h)
    (long_good asked env roles.Other n at l)

address_good : (asked : Asked) (env : Env) (s : Span) (a : Syntax) (space : Space) (e : IntType) (c : Bool) (r : Root) →
    Good asked env roles.Other a (kinds.Number e (reach.Element space c r)) →
    Good asked env roles.Other (at forms.UnaryNode (codes "&") s (forest1 a))
    (kinds.Pointer space e c r each.Element reach.Value)
unfolding kind_step misfits prefix_in
address_good asked env s a space e c r x =
    one_good asked env roles.Other forms.UnaryNode (codes "&") s.first s.last
    (kinds.Pointer space e c r each.Element reach.Value) refl refl a (kinds.Number e (reach.Element space c r)) x
    (record {
      known = refl;
      fit = refl;
      tested = refl;
      counted = refl;
      passed = refl;
      assignable = refl;
      written = refl;
      ends = refl;
      rooted = refl;
      flagged = refl;
    }) refl

-- ---- what is known of a leaf

-- an expression of the statement, at which nothing is refused, and at whose plain form nothing is at fault
pub record LeafOf (asked : Asked) (names : Names) (plain : Env) (m : Mark) : Type 0 where
  pub tree : Syntax
  pub marks : m ≡ marked names tree
  pub expression : IsExpressionOf true tree
  pub points : NoPoint tree
  pub role : vector_roles.Role
  pub refused : refusals role (marked names tree) ≡ []
  pub sound : SoundTree asked plain roles.Other (plain_of tree)

pub record ElementFits (asked : Asked) (names : Names) (plain : Env) (m : Mark) : Type 0 where
  pub leaf : LeafOf asked names plain m
  pub vector : Vector
  pub space : Space
  pub constant : Bool
  pub kind : kind_at (marked names leaf.tree) ≡ Vectors vector (Element space constant)
  pub element : is_element (marked names leaf.tree) ≡ true

-- a leaf that is no vector is a number in the plain form
pub record NumberFits (asked : Asked) (names : Names) (plain : Env) (m : Mark) : Type 0 where
  pub leaf : LeafOf asked names plain m
  pub apart : is_of_vectors leaf.role (marked names leaf.tree) ≡ false
  pub of : IntType
  pub reached : Reach
  pub number : kind_of plain (plain_of leaf.tree) ≡ Some (kinds.Number of reached)

pub record CopyFits (names : Names) (x : Named) (c : ℕ) : Type 0 where
  pub vector : Vector
  pub named : names x.name ≡ Vectors vector Variable
  pub within : c < vector.count
  pub source : has_point x.name ≡ false
  pub word : List ℕ
  pub name : x.name ≡ name_in word

pub record LoadFits (m : Mark) (c : ℕ) : Type 0 where
  pub vector : Vector
  pub space : Space
  pub constant : Bool
  pub kind : kind_at m ≡ Vectors vector (Element space constant)
  pub small : c ≤ 16

-- ---- lines

-- a line is at fault at no node, and behind it is what the step declares
pub record Line (asked : Asked) (env : Env) (s : Step) (t : Syntax) : Type 0 where
  pub meaning : Meaning
  pub declares : Declares asked env roles.Other (step_name s) meaning t
  pub helped : HelpedBy (behind env t) s

module _ (asked : Asked) (names : Names) (plain : Env) (give : Called asked plain) (env : Env)
    (alike : Plainly names plain env) (inner : 2 ≤ length env.scopes) where
  -- the plain form at a declarator of that type
  plain_at : (d : Declared) (t : Syntax) → IsExpressionOf true t → SoundTree asked plain roles.Other (plain_of t) →
      SoundTree asked (typed_by plain d) roles.Other (plain_of t) ×
      (kind_of (typed_by plain d) (plain_of t) ≡ kind_of plain (plain_of t))
  plain_at d t h so =
      tree_alike asked plain (typed_by plain d) roles.Other (plain_of t) (plain_made t h) (alike_typed plain d) so

  -- the pointer to the first component of an element
  element_address : (m : Mark) (f : ElementFits asked names plain m) (d : Declared) →
      (r : Root) × Good asked (typed_by env d) roles.Other (address_at m)
      (kinds.Pointer f.space f.vector.of f.constant r each.Element reach.Value)
  element_address m f d =
      let l = f.leaf in
      let p = placed asked (typed_by plain d) (typed_by env d) names l.role roles.Other l.tree l.expression l.points
      (plainly_typed names plain env d alike) (called_alike asked plain (typed_by plain d) (alike_typed plain d) give)
      l.refused (ap is_place f.kind) (plain_at d l.tree l.expression l.sound).0 in
      let k : KindAs (Vectors f.vector (Element f.space f.constant)) (Some p.kind) =
      subst (λ z. KindAs z (Some p.kind)) f.kind p.as' in
      let g = p.element f.element roles.Other in
      let s = span_of (tree_at m) in
      let a : Good asked (typed_by env d) roles.Other (scalar m)
      (kinds.Number f.vector.of (reach.Element f.space f.constant k.0)) =
      subst (λ z. Good asked (typed_by env d) roles.Other (scalar z)
      (kinds.Number f.vector.of (reach.Element f.space f.constant k.0))) (sym l.marks)
      (subst (λ z. Good asked (typed_by env d) roles.Other (scalar (marked names l.tree)) z) (some_same p.kind _ k.1) g)
      in
      (k.0, address_good asked (typed_by env d) s (scalar m) f.space f.vector.of f.constant k.0 a)

  pub offset_sound : (m : Mark) → ElementFits asked names plain m → is_declared env (step_name (Offset m)) ≡ false →
      Line asked env (Offset m) (offset_line m)
  offset_sound m f fresh =
      let s = span_of (tree_at m) in
      let d = declared_with (Some f.space) f.constant f.vector.of in
      let g = element_address m f d in
      let k : kind_at m ≡ Vectors f.vector (Element f.space f.constant) = ap kind_at f.leaf.marks ∙ f.kind in
      let there = meanings.Pointer f.space f.vector.of f.constant g.0 false (length env.variables) in
      let line : Declares asked env roles.Other (helper s) there (offset_line m) =
      subst (λ z. Declares asked env roles.Other (helper s) there
      (declared_at s (pointed_at z s) (helper s) (forest2 (star_at s) (address_at m)))) (sym k)
      (pointer_declaration asked env roles.Other s (constant_word f.constant f.vector.of) s.first s.last
      (forest1 (node forms.SpaceNode (space_word f.space) s.first s.last none)) d (helper s) (address_at m)
      (space_typed asked env f.space f.constant f.vector.of s) (helper_name s) fresh inner f.constant g.0 reach.Value
      g.1) in record {
        meaning = there;
        declares = line;
        helped = subst (λ z. StandsForPointer z (behind env (offset_line m)) (helper s)) (sym k) (
          g.0,
          false,
          ap unnumbered (adds_itself env (behind env (offset_line m)) (helper s) there line.adds),
        );
      }

  pub number_sound : (of : IntType) (m : Mark) → NumberFits asked names plain m →
      is_declared env (step_name (Number of m)) ≡ false → Line asked env (Number of m) (number_line of m)
  number_sound of m f fresh =
      let s = span_of (tree_at m) in
      let d = declared_with None false of in
      let l = f.leaf in
      let so = plain_at d l.tree l.expression l.sound in
      let c = claim asked (typed_by plain d) (typed_by env d) names l.role roles.Other l.tree l.expression l.points
      (plainly_typed names plain env d alike) (called_alike asked plain (typed_by plain d) (alike_typed plain d) give)
      l.refused f.apart so.0 in
      let same : c.kind ≡ kinds.Number f.of f.reached =
      some_same c.kind (kinds.Number f.of f.reached) (sym c.plain ∙ so.1 ∙ f.number) in
      let g : Good asked (typed_by env d) roles.Other (scalar m) (kinds.Number f.of f.reached) =
      subst (λ z. Good asked (typed_by env d) roles.Other (scalar z) (kinds.Number f.of f.reached)) (sym l.marks)
      (subst (λ z. Good asked (typed_by env d) roles.Other (scalar (marked names l.tree)) z) same c.good) in
      let there = meanings.Scalar of false (length env.variables) in
      let line = number_declaration asked env roles.Other s (type_word of) s.first s.last none d (helper s) (scalar m)
      (type_typed asked env of s) (helper_name s) fresh inner tt (f.of, f.reached, g) in record {
        meaning = there;
        declares = line;
        helped = (
          of,
          false,
          ap unnumbered (adds_itself env (behind env (number_line of m)) (helper s) there line.adds),
        );
      }

  -- a component of a variable is a number
  pub component_number : (x : Named) (c : ℕ) → CopyFits names x c → StandsForNumber env (component_name x.name c)
  component_number x c f =
      let h = subst (λ z. StandsAlike z x.name plain env) f.named (alike.names' x.name f.source) in
      (f.vector.of, h.0, h.2 c f.within)

  pub component_word : (x : Named) (c : ℕ) → CopyFits names x c →
      name_in (component_name x.name c) ≡ component_name x.name c
  component_word x c f = subst (λ z. name_in (component_name z c) ≡ component_name z c) (sym f.name)
      (component_named f.word c)

  pub copy_sound : (of : IntType) (x : Named) (c : ℕ) → CopyFits names x c →
      is_declared env (step_name (Copy of x c)) ≡ false → Line asked env (Copy of x c) (copy_line of x c)
  copy_sound of x c f fresh =
      let s = x.span in
      let d = declared_with None false of in
      let q = component_name x.name c in
      let g = variable_number asked (typed_by env d) q s (component_word x c f) (component_point x.name c)
      (component_number x c f) in
      let there = meanings.Scalar of false (length env.variables) in
      let name = component_name (helper s) c in
      let line = number_declaration asked env roles.Other s (type_word of) s.first s.last none d name
      (variable_at q s) (type_typed asked env of s) (component_is_name (helper s) c (helper_name s).0) fresh inner tt
      g in
      record {
        meaning = there;
        declares = line;
        helped = (of, false, ap unnumbered (adds_itself env (behind env (copy_line of x c)) name there line.adds));
      }

  pub load_sound : (m : Mark) (c : ℕ) → LoadFits m c → HelpedBy env (Offset m) →
      is_declared env (step_name (Load m c)) ≡ false → Line asked env (Load m c) (load_line m c)
  load_sound m c f h fresh =
      let s = span_of (tree_at m) in
      let of = type_in (kind_at m) in
      let d = declared_with None false of in
      let p : StandsForPointer (Vectors f.vector (Element f.space f.constant)) env (helper s) =
      subst (λ z. StandsForPointer z env (helper s)) f.kind h in
      let g = helped_good asked (typed_by env d) s c f.vector f.space f.constant f.small p in
      let there = meanings.Scalar of false (length env.variables) in
      let name = component_name (helper s) c in
      let line = number_declaration asked env roles.Other s (type_word of) s.first s.last none d name
      (helped_element s c) (type_typed asked env of s) (component_is_name (helper s) c (helper_name s).0) fresh inner tt
      (f.vector.of, reach.Element f.space f.constant p.0, g) in record {
        meaning = there;
        declares = line;
        helped = (of, false, ap unnumbered (adds_itself env (behind env (load_line m c)) name there line.adds));
      }
