-- Where no node of the lines of a vector statement is at fault: their names are new, what stands behind them is sound,
-- and pointers are initialised with pointers of their kind.
use Rattle.std.proofs.Common.{◌≡◌, ℕ, suc, List, ◌∷◌, ◌++◌, Some, None, Bool, true, false}
use Rattle.std.proofs.Common.{refl, sym, ap, ◌∙◌, subst}
use Rattle.std.proofs.lemmas.Bool.{false≢true, and_parts, or_parts, not-false}
use Rattle.std.specs.Prelude.{codes, ◌-◌}
use Rattle.wg_num.specs.declared.types.IntType.{IntType}
use Rattle.wg_num.specs.Types.{same_type}
use Rattle.wg_num.proofs.TypeLaws.{same_type_is}
use Rattle.cl_model.specs.declared.program.Root.{Root}
use Rattle.cl_model.specs.declared.program.Space.{Space}
use Rattle.cl_model.specs.declared.program.Space.TheVariants as spaces
use Rattle.cl_tree.specs.declared.tree.Form.{Form}
use Rattle.cl_tree.specs.declared.tree.Form.TheVariants as forms
use Rattle.cl_tree.specs.Syntax.{Syntax, node, Forest, none, more, last_of}
use Rattle.cl_tree.specs.Nodes.{forest1, forest2}
use Rattle.cl_meaning.specs.declared.types.Declared.{Declared}
use Rattle.cl_meaning.specs.Spelling.{name_in, declared_in}
use Rattle.cl_meaning.specs.declared.fault.Fault.TheVariants as faults
use Rattle.cl_meaning.specs.declared.kind.Each.TheVariants as each
use Rattle.cl_meaning.specs.declared.kind.Reach.{Reach}
use Rattle.cl_meaning.specs.declared.kind.Kind.{Kind}
use Rattle.cl_meaning.specs.declared.kind.Kind.TheVariants as kinds
use Rattle.cl_meaning.specs.declared.kind.Role.{Role}
use Rattle.cl_meaning.specs.declared.kind.Role.TheVariants as roles
use Rattle.cl_meaning.specs.Environment.{Env, is_declared}
use Rattle.cl_meaning.specs.Kinds.{same_space, is_number}
use Rattle.cl_meaning.specs.Declarations.{pointed_space, declarator_in, last_kind, is_star}
use Rattle.cl_meaning.specs.Visible.{Node, Before, inside, later, restored, closed, behind, behind_parts, kind_of}
use Rattle.cl_meaning.specs.Visible.{kinds_of, in_order, parts_in_order, role_of, is_front}
use Rattle.cl_meaning.specs.Faults.{Asked, Sound, AllSound, misfits, declarator_misfits}
use Rattle.cl_meaning.specs.Faults.{points_as, is_known_name}
use Rattle.cl_short_vec.specs.declared.nodes.Span.{Span}
use Rattle.cl_short_vec.specs.declared.types.Vector.{Vector}
use Rattle.cl_short_vec.specs.declared.kinds.Reach.TheVariants.{Element}
use Rattle.cl_short_vec.specs.declared.kinds.Kind.TheVariants.{Vectors}
use Rattle.cl_short_vec.specs.Marks.{Mark, tree_at, kind_at}
use Rattle.cl_short_vec.specs.Order.{Named, type_in}
use Rattle.cl_short_vec.specs.Nodes.{span_of, type_word, constant_word, space_word, spaced_at, declared_at, star_at}
use Rattle.cl_short_vec.specs.Nodes.{helper, component_name}
use Rattle.cl_short_vec.specs.Scalar.{scalar}
use Rattle.cl_short_vec.specs.Unit.{pointed_at, address_at, offset_line, number_line, copy_line, helped_element}
use Rattle.cl_short_vec.specs.Unit.{load_line, set_line}
use Rattle.cl_short_vec.proofs.OwnNames.{HasNoBlank, IsName, set_name, set_is_set, set_dimensions, helper_name}
use Rattle.cl_short_vec.proofs.OwnNames.{component_is_name}
use Rattle.cl_short_vec_correct.proofs.LineWords.{declared_with}
use Rattle.cl_short_vec_correct.proofs.Pieces.{closed_same, star_behind, variable_behind}
use Rattle.cl_short_vec_correct.proofs.Lines.{IsInitialAt, numbered, pointing, type_of, space_of, component_at}
use Rattle.cl_short_vec_correct.proofs.Lines.{helped_behind}
use Rattle.cl_short_vec_correct.proofs.Declared.{behind_typed, set_declarator, number_declares, pointer_declares}
use Rattle.cl_short_vec_correct.proofs.Declared.{IsTyped}

-- ---- what stands behind a tree is sound with it

module _ (asked : Asked) where
  mutual
    unfolding in_order parts_in_order

    pub sound_behind : (env : Env) (role : Role) (t : Syntax) (others : List Node) →
        AllSound asked (in_order env role t others) → AllSound asked others
    sound_behind env role (node form w f l parts) others h =
        (sound_behind_parts (inside env form w) form None parts (record {
          visible = env;
          role = role;
          tree = node form w f l parts;
        } ∷ others) h).1

    sound_behind_parts : (env : Env) (form : Form) (b : Before) (parts : Forest) (others : List Node) →
        AllSound asked (parts_in_order env form b parts others) → AllSound asked others
    sound_behind_parts env form b none others h = h
    sound_behind_parts env form b (more p ps) others h =
        sound_behind_parts (later (behind env p) form (is_front b) p (kind_of env p)) form (Some (last_of p)) ps others
        (sound_behind env (role_of form b p) p (parts_in_order (later (behind env p) form (is_front b) p
        (kind_of env p)) form (Some (last_of p)) ps others) h)

  -- the tree itself is
  pub sound_itself : (env : Env) (role : Role) (t : Syntax) (others : List Node) →
      AllSound asked (in_order env role t others) → Sound asked (record { visible = env; role = role; tree = t })
  unfolding in_order
  sound_itself env role (node form w f l parts) others h =
      (sound_behind_parts (inside env form w) form None parts (record {
        visible = env;
        role = role;
        tree = node form w f l parts;
      } ∷ others) h).0

  -- and the declarator of a declaration
  pub sound_declarator : (env : Env) (role : Role) (w : List ℕ) (f l : ℕ) (wt : List ℕ) (ft lt : ℕ) (types : Forest)
      (x : Syntax) (others : List Node) (d : Declared) → IsTyped env wt ft lt types d →
      AllSound asked (in_order env role (node forms.DeclareNode w f l
      (more (node forms.TypeNode wt ft lt types) (more x none))) others) →
      Sound asked (record { visible = behind_typed env d; role = roles.Other; tree = x })
  unfolding in_order parts_in_order inside later
  sound_declarator env role w f l wt ft lt types x others d t h =
      let type = node forms.TypeNode wt ft lt types in
      let last : Node = record {
        visible = env;
        role = role;
        tree = node forms.DeclareNode w f l (more type (more x none));
      } in
      let u : Env = record (behind env type) { declared = declared_in type } in
      let s = sound_itself u roles.Other x (last ∷ others)
      (sound_behind env roles.Other type (in_order u roles.Other x (last ∷ others)) h) in
      subst (λ e. Sound asked (record { visible = record e { declared = Some d }; role = roles.Other; tree = x }))
      t.same (subst (λ z. Sound asked (record {
        visible = record (behind env type) { declared = z };
        role = roles.Other;
        tree = x;
      })) t.declares s)

-- ---- the declarator

-- its name is new
fresh_by : (asked : Asked) (env : Env) (w : List ℕ) (f l : ℕ) (parts : Forest) →
    behind_parts env forms.DeclaratorNode true parts ≡ env →
    Sound asked (record { visible = env; role = roles.Other; tree = node forms.DeclaratorNode w f l parts }) →
    is_declared env (name_in w) ≡ false
unfolding inside restored
fresh_by asked env w f l parts h s =
    let n = or_parts (is_declared (closed env (behind_parts env forms.DeclaratorNode true parts)) (name_in w))
    (is_known_name (closed env (behind_parts env forms.DeclaratorNode true parts)) (name_in w))
    (s faults.DeclaredTwice) in
    subst (λ e. is_declared e (name_in w) ≡ false) (ap (closed env) h ∙ closed_same env) n.0

-- its initialiser fits
fits_by : (asked : Asked) (env : Env) (w : List ℕ) (f l : ℕ) (parts : Forest) →
    behind_parts env forms.DeclaratorNode true parts ≡ env →
    Sound asked (record { visible = env; role = roles.Other; tree = node forms.DeclaratorNode w f l parts }) →
    declarator_misfits env.declared (declarator_in w f parts)
    (last_kind (kinds_of env forms.DeclaratorNode true parts)) ≡ false
unfolding inside restored misfits
fits_by asked env w f l parts h s =
    let k = last_kind (kinds_of env forms.DeclaratorNode true parts) in
    let n = or_parts (declarator_misfits (closed env (behind_parts env forms.DeclaratorNode true parts)).declared
    (declarator_in w f parts) k) _ (s faults.OperandTypes) in
    n.0

-- a space is one by the test
same_space_is : (s r : Space) → same_space s r ≡ true → s ≡ r
same_space_is spaces.Global spaces.Global h = refl
same_space_is spaces.Constant spaces.Constant h = refl
same_space_is spaces.Local spaces.Local h = refl
same_space_is spaces.Private spaces.Private h = refl
same_space_is _ _ h = absurd (false≢true h)

-- a pointer into the space, to that type
abbrev pub PointsAs : Space → IntType → Kind → Type 0
PointsAs space of k = (c : Bool) × (r : Root) × (p : Reach) × (k ≡ kinds.Pointer space of c r each.Element p)

pub points_so : (d : Declared) (k : Kind) → points_as d k ≡ true → PointsAs (pointed_space d) d.of k
points_so d (kinds.Pointer s e c r each.Element p) h =
    let b = and_parts (same_space s (pointed_space d)) (same_type e d.of) h in (
      c,
      r,
      p,
      ap (λ z. kinds.Pointer z e c r each.Element p) (same_space_is s (pointed_space d) b.0) ∙
          ap (λ z. kinds.Pointer (pointed_space d) z c r each.Element p) (same_type_is e d.of b.1),
    )
points_so d k h = absurd (false≢true h)

-- ---- a variable with an initialiser

module _ (asked : Asked) (env : Env) (role : Role) (s : Span) (w : List ℕ) (f l : ℕ) (parts : Forest) (d : Declared)
    (name : List ℕ) (e : Syntax) (others : List Node) (typed : IsTyped env w f l parts d) (named : IsName name)
    (same : behind (behind_typed env d) e ≡ behind_typed env d) where
  -- of a number
  module _ (h : AllSound asked (in_order env role
      (declared_at s (node forms.TypeNode w f l parts) name (forest1 e)) others)) where
    at_number : Sound asked (record {
      visible = behind_typed env d;
      role = roles.Other;
      tree = node forms.DeclaratorNode (name ++ codes " =") s.first s.last (forest1 e);
    })
    at_number = sound_declarator asked env role (codes ";") s.first s.last w f l parts
        (node forms.DeclaratorNode (name ++ codes " =") s.first s.last (forest1 e)) others d typed h

    number_parts : behind_parts (behind_typed env d) forms.DeclaratorNode true (forest1 e) ≡ behind_typed env d
    unfolding behind_parts later
    number_parts = same

    pub declared_fresh : is_declared env name ≡ false
    declared_fresh = subst (λ q. is_declared env q ≡ false) (set_name name named.0)
        (fresh_by asked (behind_typed env d) (name ++ codes " =") s.first s.last (forest1 e) number_parts at_number)

    -- its initialiser is a number
    pub declared_number : (k : Kind) → is_star e ≡ false → kind_of (behind_typed env d) e ≡ Some k →
        is_number k ≡ true
    unfolding kinds_of
    declared_number k star g =
        let u = behind_typed env d in
        let z = fits_by asked u (name ++ codes " =") s.first s.last (forest1 e) number_parts at_number in
        let x : declarator_misfits (Some d) (set_declarator name s.first None e) (Some k) ≡ false =
        sym (ap (λ a. declarator_misfits (Some d) a (Some k))
        (number_declares (name ++ codes " =") name s.first e (set_name name named.0) (set_dimensions name named)
        (set_is_set name named.0) star)) ∙ (sym (ap (λ a. declarator_misfits (Some d)
        (declarator_in (name ++ codes " =") s.first (forest1 e)) a) g) ∙ z) in
        not-false (is_number k) (or_parts _ _ x).1

  -- of a pointer
  module _ (h : AllSound asked (in_order env role
      (declared_at s (node forms.TypeNode w f l parts) name (forest2 (star_at s) e)) others)) where
    at_pointer : Sound asked (record {
      visible = behind_typed env d;
      role = roles.Other;
      tree = node forms.DeclaratorNode (name ++ codes " =") s.first s.last (forest2 (star_at s) e);
    })
    at_pointer = sound_declarator asked env role (codes ";") s.first s.last w f l parts
        (node forms.DeclaratorNode (name ++ codes " =") s.first s.last (forest2 (star_at s) e)) others d typed h

    pointer_parts : behind_parts (behind_typed env d) forms.DeclaratorNode true (forest2 (star_at s) e) ≡
        behind_typed env d
    unfolding behind_parts later
    pointer_parts =
        ap (λ v. behind v e) (star_behind (behind_typed env d) (codes "*") s.first (s.first - 1)) ∙ same

    pub pointed_fresh : is_declared env name ≡ false
    pointed_fresh = subst (λ q. is_declared env q ≡ false) (set_name name named.0)
        (fresh_by asked (behind_typed env d) (name ++ codes " =") s.first s.last (forest2 (star_at s) e) pointer_parts
        at_pointer)

    -- its initialiser is a pointer into that space, to that type
    pub pointed_pointer : (k : Kind) → kind_of (behind_typed env d) e ≡ Some k → PointsAs (pointed_space d) d.of k
    unfolding kinds_of later
    pointed_pointer k g =
        let u = behind_typed env d in
        let z = fits_by asked u (name ++ codes " =") s.first s.last (forest2 (star_at s) e) pointer_parts
        at_pointer in
        let y : kind_of (behind u (star_at s)) e ≡ Some k =
        ap (λ v. kind_of v e) (star_behind u (codes "*") s.first (s.first - 1)) ∙ g in
        let x : declarator_misfits (Some d) (set_declarator name (suc (s.first - 1)) (Some false) e) (Some k) ≡ false =
        sym (ap (λ a. declarator_misfits (Some d) a (Some k))
        (pointer_declares (name ++ codes " =") name (codes "*") s.first s.first (s.first - 1) false e
        (set_name name named.0) (set_dimensions name named) (set_is_set name named.0) refl)) ∙
        (sym (ap (λ a. declarator_misfits (Some d)
        (declarator_in (name ++ codes " =") s.first (forest2 (star_at s) e)) a) y) ∙ z) in
        points_so d k (not-false (points_as d k) (or_parts _ _ x).1)

-- ---- the lines

module _ (asked : Asked) (env : Env) (role : Role) (others : List Node) where
  pub number_fresh : (of : IntType) (m : Mark) → behind (numbered env of) (scalar m) ≡ numbered env of →
      AllSound asked (in_order env role (number_line of m) others) →
      is_declared env (helper (span_of (tree_at m))) ≡ false
  number_fresh of m b h =
      let s = span_of (tree_at m) in
      declared_fresh asked env role s (type_word of) s.first s.last none (declared_with None false of) (helper s)
      (scalar m) others (type_of env of s) (helper_name s) b h

  -- the number is one
  pub number_number : (of : IntType) (m : Mark) (k : Kind) → IsInitialAt (numbered env of) (scalar m) →
      AllSound asked (in_order env role (number_line of m) others) →
      kind_of (numbered env of) (scalar m) ≡ Some k → is_number k ≡ true
  number_number of m k i h g =
      let s = span_of (tree_at m) in
      declared_number asked env role s (type_word of) s.first s.last none (declared_with None false of) (helper s)
      (scalar m) others (type_of env of s) (helper_name s) i.1 h k i.0 g

  module _ (m : Mark) (v : Vector) (space : Space) (constant : Bool)
      (is : kind_at m ≡ Vectors v (Element space constant))
      (b : behind (pointing env space constant v.of) (address_at m) ≡ pointing env space constant v.of)
      (h : AllSound asked (in_order env role (offset_line m) others)) where
    offset_sound : AllSound asked (in_order env role (declared_at (span_of (tree_at m))
        (spaced_at space constant v.of (span_of (tree_at m))) (helper (span_of (tree_at m)))
        (forest2 (star_at (span_of (tree_at m))) (address_at m))) others)
    offset_sound =
        let s = span_of (tree_at m) in
        subst (λ z. AllSound asked (in_order env role (declared_at s (pointed_at z s) (helper s)
        (forest2 (star_at s) (address_at m))) others)) is h

    pub offset_fresh : is_declared env (helper (span_of (tree_at m))) ≡ false
    offset_fresh =
        let s = span_of (tree_at m) in
        pointed_fresh asked env role s (constant_word constant v.of) s.first s.last
        (forest1 (node forms.SpaceNode (space_word space) s.first s.last none))
        (declared_with (Some space) constant v.of) (helper s) (address_at m) others
        (space_of env space constant v.of s) (helper_name s) b offset_sound

    -- the address points into the space, to the type
    pub offset_pointer : (k : Kind) → kind_of (pointing env space constant v.of) (address_at m) ≡ Some k →
        PointsAs space v.of k
    offset_pointer k g =
        let s = span_of (tree_at m) in
        pointed_pointer asked env role s (constant_word constant v.of) s.first s.last
        (forest1 (node forms.SpaceNode (space_word space) s.first s.last none))
        (declared_with (Some space) constant v.of) (helper s) (address_at m) others
        (space_of env space constant v.of s) (helper_name s) b offset_sound k g

  pub copy_fresh : (of : IntType) (x : Named) (c : ℕ) →
      AllSound asked (in_order env role (copy_line of x c) others) →
      is_declared env (component_name (helper x.span) c) ≡ false
  copy_fresh of x c h =
      let s = x.span in
      declared_fresh asked env role s (type_word of) s.first s.last none (declared_with None false of)
      (component_name (helper s) c) (component_at x c) others (type_of env of s)
      (component_is_name (helper s) c (helper_name s).0)
      (variable_behind (numbered env of) (component_name x.name c) s.first s.last) h

  pub load_fresh : (m : Mark) (c : ℕ) → AllSound asked (in_order env role (load_line m c) others) →
      is_declared env (component_name (helper (span_of (tree_at m))) c) ≡ false
  load_fresh m c h =
      let s = span_of (tree_at m) in
      let of = type_in (kind_at m) in
      declared_fresh asked env role s (type_word of) s.first s.last none (declared_with None false of)
      (component_name (helper s) c) (helped_element s c) others (type_of env of s)
      (component_is_name (helper s) c (helper_name s).0) (helped_behind (numbered env of) s c) h

  pub initial_fresh : (type : Mark) (x : Named) (c : ℕ) (e : Syntax) (w : List ℕ) (f l : ℕ) (parts : Forest)
      (d : Declared) → scalar type ≡ node forms.TypeNode w f l parts → IsTyped env w f l parts d →
      HasNoBlank x.name → behind (behind_typed env d) e ≡ behind_typed env d →
      AllSound asked (in_order env role (set_line (Some type) x c e) others) →
      is_declared env (component_name x.name c) ≡ false
  initial_fresh type x c e w f l parts d is typed n b h =
      declared_fresh asked env role x.span w f l parts d (component_name x.name c) e others typed
      (component_is_name x.name c n) b (subst (λ t. AllSound asked (in_order env role
      (declared_at x.span t (component_name x.name c) (forest1 e)) others)) is h)
