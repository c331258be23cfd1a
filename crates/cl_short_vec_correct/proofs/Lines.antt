-- What the six lines of a vector statement stand for, and what is visible behind each.
use Rattle.std.proofs.Common.{◌≡◌, ℕ, suc, ◌≤◌, Bool, false, List, [], ◌∷◌, ◌++◌, length, Some, None}
use Rattle.std.proofs.Common.{refl, sym, ap, ◌∙◌, subst, arith}
use Rattle.std.specs.Prelude.{codes, decimal, ◌-◌}
use Rattle.wg_num.specs.declared.types.IntType.{IntType}
use Rattle.wg_num.specs.declared.types.IntType.TheVariants as types
use Rattle.wg_num.specs.declared.types.Place.{Place}
use Rattle.cl_model.specs.declared.program.Root.{Root}
use Rattle.cl_model.specs.declared.program.Space.{Space}
use Rattle.cl_model.specs.declared.program.VarKind.TheVariants as var_kinds
use Rattle.cl_model.specs.Tree as tree
use Rattle.cl_model.specs.Tree.{Expression, Apply, single, pair}
use Rattle.cl_tree.specs.declared.tree.Form.TheVariants as forms
use Rattle.cl_tree.specs.Syntax.{Syntax, node, Forest, none}
use Rattle.cl_tree.specs.Nodes.{forest1, forest2}
use Rattle.cl_meaning.specs.declared.types.Declared.{Declared}
use Rattle.cl_meaning.specs.declared.operators.Setting.TheVariants as settings
use Rattle.cl_meaning.specs.declared.kind.Reach.{Reach}
use Rattle.cl_meaning.specs.declared.kind.Reach.TheVariants as reach
use Rattle.cl_meaning.specs.declared.kind.Kind.TheVariants as kinds
use Rattle.cl_meaning.specs.declared.kind.Meaning.{Meaning}
use Rattle.cl_meaning.specs.declared.kind.Meaning.TheVariants as meanings
use Rattle.cl_meaning.specs.Environment.{Env, meaning_of, place_of}
use Rattle.cl_meaning.specs.Declarations.{is_star, with_variable, pointed_space, root_of}
use Rattle.cl_meaning.specs.Visible.{behind, kind_of}
use Rattle.cl_meaning.specs.Typed.{target, variable, element, lines, statement}
use Rattle.cl_meaning.specs.Expressions.{read, operand, set_what, assigned}
use Rattle.cl_meaning.specs.Statements.{alone}
use Rattle.cl_meaning.specs.Meant.{meant}
use Rattle.cl_short_vec.specs.declared.nodes.Span.{Span}
use Rattle.cl_short_vec.specs.declared.types.Vector.{Vector}
use Rattle.cl_short_vec.specs.declared.kinds.Reach.TheVariants.{Element}
use Rattle.cl_short_vec.specs.declared.kinds.Kind.TheVariants.{Vectors}
use Rattle.cl_short_vec.specs.Marks.{Mark, tree_at, kind_at}
use Rattle.cl_short_vec.specs.Order.{Named, type_in}
use Rattle.cl_short_vec.specs.Nodes.{span_of, type_word, constant_word, space_word, declared_at, star_at}
use Rattle.cl_short_vec.specs.Nodes.{variable_at, long_at, assigned_at, helper, component_name}
use Rattle.cl_short_vec.specs.Scalar.{scalar}
use Rattle.cl_short_vec.specs.Unit.{pointed_at, address_at, offset_line, number_line, copy_line, helped_element}
use Rattle.cl_short_vec.specs.Unit.{load_line, set_line, store_line}
use Rattle.cl_short_vec_correct.proofs.Adds.{Adds, variable_adds, inner_scope, IsOwn, kept_own}
use Rattle.cl_short_vec.proofs.OwnNames.{HasNoBlank, IsName, helper_name, component_is_name, alone_name, set_name}
use Rattle.cl_short_vec.proofs.OwnNames.{set_is_set, set_dimensions}
use Rattle.cl_short_vec_correct.proofs.LineWords.{declared_with, typed_declared}
use Rattle.cl_short_vec_correct.proofs.LineWords.{spaced_declared, plain_setting, index_postfix, long_literal}
use Rattle.cl_short_vec_correct.proofs.Pieces.{made_as, operand_same, variable_behind, number_behind, variable_meant}
use Rattle.cl_short_vec_correct.proofs.Pieces.{number_meant, index_behind, index_of, element_meant, assign_behind}
use Rattle.cl_short_vec_correct.proofs.Pieces.{assign_meant, simple_behind, simple_meant, meant_kind}
use Rattle.cl_short_vec_correct.proofs.Declared.{behind_typed, number_declares, pointer_declares, IsTyped, plain_typed}
use Rattle.cl_short_vec_correct.proofs.Declared.{number_behind_declarator, pointer_behind_declarator, number_declared}
use Rattle.cl_short_vec_correct.proofs.Declared.{pointer_declared, declaration_behind, declaration_meant, spaced_typed}

-- ---- a variable with an initialiser

-- what an initialiser is, where this is visible at it
abbrev pub IsInitialAt : Env → Syntax → Type 0
IsInitialAt env e = (is_star e ≡ false) × (behind env e ≡ env)

module _ (env : Env) (s : Span) (w : List ℕ) (f l : ℕ) (parts : Forest) (d : Declared) (name : List ℕ) (e : Syntax)
    (inner : 2 ≤ length env.scopes) (typed : IsTyped env w f l parts d) (named : IsName name) where
  pub declared_behind : IsOwn d.space → IsInitialAt (behind_typed env d) e →
      behind env (declared_at s (node forms.TypeNode w f l parts) name (forest1 e)) ≡
      with_variable env name s.first (var_kinds.Scalar d.of) (meanings.Scalar d.of d.constant (length env.variables))
  declared_behind own h =
      let u = behind_typed env d in
      declaration_behind env (codes ";") w (name ++ codes " =") name s.first s.last f l s.first s.last s.first parts
      (forest1 e) d (var_kinds.Scalar d.of) (meanings.Scalar d.of d.constant (length env.variables)) typed
      (number_behind_declarator u d (name ++ codes " =") name s.first s.last e refl h.1
      (kept_own u d (inner_scope u inner) own)
      (number_declares (name ++ codes " =") name s.first e (set_name name named.0) (set_dimensions name named)
      (set_is_set name named.0) h.0))

  pub declared_adds : IsOwn d.space → IsInitialAt (behind_typed env d) e →
      Adds env (behind env (declared_at s (node forms.TypeNode w f l parts) name (forest1 e))) name
      (meanings.Scalar d.of d.constant (length env.variables))
  declared_adds own h =
      subst (λ to. Adds env to name (meanings.Scalar d.of d.constant (length env.variables)))
      (sym (declared_behind own h)) (variable_adds env name s.first (var_kinds.Scalar d.of)
      (meanings.Scalar d.of d.constant (length env.variables)) (omega arith))

  pub declared_meant : (sites : List Place) → IsOwn d.space → IsInitialAt (behind_typed env d) e →
      (meant env sites (declared_at s (node forms.TypeNode w f l parts) name (forest1 e))).piece.what ≡
      lines (alone (tree.Declare (length env.variables)
      (Some (operand d.of (meant (behind_typed env d) sites e).piece))))
  declared_meant sites own h =
      let u = behind_typed env d in
      declaration_meant env sites (codes ";") w (name ++ codes " =") s.first s.last f l s.first s.last parts
      (forest1 e) d (tree.Declare (length env.variables) (Some (operand d.of (meant u sites e).piece))) typed
      (number_declared u sites d (name ++ codes " =") name s.first s.last e refl h.1
      (kept_own u d (inner_scope u inner) own)
      (number_declares (name ++ codes " =") name s.first e (set_name name named.0) (set_dimensions name named)
      (set_is_set name named.0) h.0))

  -- the meaning of a pointer to what that type is
  abbrev pub pointer_meaning : Meaning
  pointer_meaning = meanings.Pointer (pointed_space d) d.of d.constant (root_of (kind_of (behind_typed env d) e)) false
      (length env.variables)

  pub pointed_adds : behind (behind_typed env d) e ≡ behind_typed env d →
      Adds env (behind env (declared_at s (node forms.TypeNode w f l parts) name (forest2 (star_at s) e))) name
      pointer_meaning
  pointed_adds h =
      let u = behind_typed env d in
      let kind = var_kinds.Pointer (pointed_space d) d.of (root_of (kind_of u e)) in
      subst (λ to. Adds env to name pointer_meaning)
      (sym (declaration_behind env (codes ";") w (name ++ codes " =") name s.first s.last f l s.first s.last
      (suc (s.first - 1)) parts (forest2 (star_at s) e) d kind pointer_meaning typed
      (pointer_behind_declarator u d (name ++ codes " =") name (codes "*") s.first s.last s.first (s.first - 1) false
      e refl h (pointer_declares (name ++ codes " =") name (codes "*") s.first s.first (s.first - 1) false e
      (set_name name named.0) (set_dimensions name named) (set_is_set name named.0) refl))))
      (variable_adds env name (suc (s.first - 1)) kind pointer_meaning (omega arith))

  pub pointed_meant : (sites : List Place) → behind (behind_typed env d) e ≡ behind_typed env d →
      (meant env sites (declared_at s (node forms.TypeNode w f l parts) name (forest2 (star_at s) e))).piece.what ≡
      lines (alone (tree.Declare (length env.variables)
      (Some (read (meant (behind_typed env d) sites e).piece.what))))
  pointed_meant sites h =
      let u = behind_typed env d in
      declaration_meant env sites (codes ";") w (name ++ codes " =") s.first s.last f l s.first s.last parts
      (forest2 (star_at s) e) d (tree.Declare (length env.variables) (Some (read (meant u sites e).piece.what))) typed
      (pointer_declared u sites d (name ++ codes " =") name (codes "*") s.first s.last s.first (s.first - 1) false
      e refl h (pointer_declares (name ++ codes " =") name (codes "*") s.first s.first (s.first - 1) false e
      (set_name name named.0) (set_dimensions name named) (set_is_set name named.0) refl))

-- ---- where an element stands, and a number

-- what is visible at the initialiser of a variable of that type
abbrev pub numbered : Env → IntType → Env
numbered env of = behind_typed env (declared_with None false of)

-- and at that of a pointer
abbrev pub pointing : Env → Space → (constant : Bool) → IntType → Env
pointing env space constant of = behind_typed env (declared_with (Some space) constant of)

pub type_of : (env : Env) (of : IntType) (s : Span) → IsTyped env (type_word of) s.first s.last none
    (declared_with None false of)
type_of env of s = plain_typed env (type_word of) s.first s.last (declared_with None false of) (typed_declared of s)

pub space_of : (env : Env) (space : Space) (constant : Bool) (of : IntType) (s : Span) → IsTyped env
    (constant_word constant of) s.first s.last (forest1 (node forms.SpaceNode (space_word space) s.first s.last none))
    (declared_with (Some space) constant of)
space_of env space constant of s = spaced_typed env (constant_word constant of) (space_word space) s.first s.last
    s.first s.last (declared_with (Some space) constant of) (spaced_declared space constant of s)

module _ (env : Env) (inner : 2 ≤ length env.scopes) where
  pub number_adds : (of : IntType) (m : Mark) → IsInitialAt (numbered env of) (scalar m) →
      Adds env (behind env (number_line of m)) (helper (span_of (tree_at m)))
      (meanings.Scalar of false (length env.variables))
  number_adds of m h =
      let s = span_of (tree_at m) in
      declared_adds env s (type_word of) s.first s.last none (declared_with None false of) (helper s) (scalar m) inner
      (type_of env of s) (helper_name s) tt h

  pub number_is : (of : IntType) (m : Mark) (sites : List Place) → IsInitialAt (numbered env of) (scalar m) →
      (meant env sites (number_line of m)).piece.what ≡ lines (alone (tree.Declare (length env.variables)
      (Some (operand of (meant (numbered env of) sites (scalar m)).piece))))
  number_is of m sites h =
      let s = span_of (tree_at m) in
      declared_meant env s (type_word of) s.first s.last none (declared_with None false of) (helper s) (scalar m) inner
      (type_of env of s) (helper_name s) sites tt h

  -- the address of an element, behind the type of a pointer to it
  abbrev pub offset_meaning : Mark → Space → (constant : Bool) → IntType → Meaning
  offset_meaning m space constant of = meanings.Pointer space of constant
      (root_of (kind_of (pointing env space constant of) (address_at m))) false (length env.variables)

  pub offset_adds : (m : Mark) (v : Vector) (space : Space) (constant : Bool) →
      kind_at m ≡ Vectors v (Element space constant) →
      behind (pointing env space constant v.of) (address_at m) ≡ pointing env space constant v.of →
      Adds env (behind env (offset_line m)) (helper (span_of (tree_at m))) (offset_meaning m space constant v.of)
  offset_adds m v space constant k h =
      let s = span_of (tree_at m) in
      subst (λ z. Adds env (behind env (declared_at s (pointed_at z s) (helper s) (forest2 (star_at s) (address_at m))))
      (helper s) (offset_meaning m space constant v.of)) (sym k)
      (pointed_adds env s (constant_word constant v.of) s.first s.last
      (forest1 (node forms.SpaceNode (space_word space) s.first s.last none))
      (declared_with (Some space) constant v.of) (helper s) (address_at m) inner
      (space_of env space constant v.of s) (helper_name s) h)

  pub offset_is : (m : Mark) (v : Vector) (space : Space) (constant : Bool) (sites : List Place) →
      kind_at m ≡ Vectors v (Element space constant) →
      behind (pointing env space constant v.of) (address_at m) ≡ pointing env space constant v.of →
      (meant env sites (offset_line m)).piece.what ≡ lines (alone (tree.Declare (length env.variables)
      (Some (read (meant (pointing env space constant v.of) sites (address_at m)).piece.what))))
  offset_is m v space constant sites k h =
      let s = span_of (tree_at m) in
      ap (λ z. (meant env sites (declared_at s (pointed_at z s) (helper s)
      (forest2 (star_at s) (address_at m)))).piece.what) k ∙
      pointed_meant env s (constant_word constant v.of) s.first s.last
      (forest1 (node forms.SpaceNode (space_word space) s.first s.last none))
      (declared_with (Some space) constant v.of) (helper s) (address_at m) inner
      (space_of env space constant v.of s) (helper_name s) sites h

-- ---- a component

abbrev pub component_at : Named → ℕ → Syntax
component_at x c = variable_at (component_name x.name c) x.span

-- a component of a variable, where it is visible
pub component_meant : (env : Env) (sites : List Place) (x : Named) (c : ℕ) (of : IntType) (constant : Bool) (y : ℕ) →
    env.flags ≡ false → HasNoBlank x.name →
    meaning_of env (component_name x.name c) ≡ Some (meanings.Scalar of constant y) →
    meant env sites (component_at x c) ≡
    made_as (Some (kinds.Number of (reach.Variable constant))) (target (variable y)) sites
component_meant env sites x c of constant y flags n m =
    variable_meant env sites (component_name x.name c) x.span.first x.span.last (meanings.Scalar of constant y) flags
    (ap (meaning_of env) (alone_name (component_name x.name c) (component_is_name x.name c n).0) ∙ m)

pub copy_adds : (env : Env) (of : IntType) (x : Named) (c : ℕ) → 2 ≤ length env.scopes →
    Adds env (behind env (copy_line of x c)) (component_name (helper x.span) c)
    (meanings.Scalar of false (length env.variables))
copy_adds env of x c inner =
    let s = x.span in
    declared_adds env s (type_word of) s.first s.last none (declared_with None false of)
    (component_name (helper s) c) (component_at x c) inner (type_of env of s)
    (component_is_name (helper s) c (helper_name s).0) tt
    (refl, variable_behind (numbered env of) (component_name x.name c) s.first s.last)

pub copy_is : (env : Env) (of : IntType) (x : Named) (c : ℕ) (constant : Bool) (y : ℕ) (sites : List Place) →
    2 ≤ length env.scopes → env.flags ≡ false → HasNoBlank x.name →
    meaning_of env (component_name x.name c) ≡ Some (meanings.Scalar of constant y) →
    (meant env sites (copy_line of x c)).piece.what ≡
    lines (alone (tree.Declare (length env.variables) (Some (Apply (tree.Variable y) tree.none))))
copy_is env of x c constant y sites inner flags n m =
    let s = x.span in
    let e = component_meant (numbered env of) sites x c of constant y flags n m in
    declared_meant env s (type_word of) s.first s.last none (declared_with None false of)
    (component_name (helper s) c) (component_at x c) inner (type_of env of s)
    (component_is_name (helper s) c (helper_name s).0) sites tt
    (refl, variable_behind (numbered env of) (component_name x.name c) s.first s.last) ∙
    (ap (λ z. lines (alone (tree.Declare (length env.variables) (Some (operand of z.piece))))) e ∙
    ap (λ z. lines (alone (tree.Declare (length env.variables) (Some z))))
    (operand_same of (record { kind = Some (kinds.Number of (reach.Variable constant)); what = target (variable y) })
    (reach.Variable constant) refl))

-- ---- a component of an element

pub helped_behind : (env : Env) (s : Span) (c : ℕ) → behind env (helped_element s c) ≡ env
helped_behind env s c = index_behind env (codes "[ ]") s.first s.last (variable_at (helper s) s) (long_at c s)
    (variable_behind env (helper s) s.first s.last)
    (number_behind env (decimal c ++ codes "L") s.first s.last)

-- the element at a number behind what the helping variable points to
pub helped_meant : (env : Env) (sites : List Place) (s : Span) (c : ℕ) (space : Space) (of : IntType)
    (constant fixed : Bool) (r : Root) (y : ℕ) → env.flags ≡ false → c ≤ 16 →
    meaning_of env (helper s) ≡ Some (meanings.Pointer space of constant r fixed y) →
    meant env sites (helped_element s c) ≡ made_as (Some (kinds.Number of (reach.Element space constant r)))
    (target (element (length sites) of r (index_of y c))) (sites ++ place_of env s.first ∷ [])
helped_meant env sites s c space of constant fixed r y flags small m =
    element_meant env sites s.first s.last (variable_at (helper s) s) (long_at c s) (codes "[ ]") space of constant
    fixed r y c (variable_behind env (helper s) s.first s.last)
    (number_behind env (decimal c ++ codes "L") s.first s.last) index_postfix
    (variable_meant env sites (helper s) s.first s.last (meanings.Pointer space of constant r fixed y) flags
    (ap (meaning_of env) (alone_name (helper s) (helper_name s).0) ∙ m))
    (number_meant env sites (decimal c ++ codes "L") s.first s.last types.Long c (long_literal c small))

pub load_adds : (env : Env) (m : Mark) (c : ℕ) → 2 ≤ length env.scopes →
    Adds env (behind env (load_line m c)) (component_name (helper (span_of (tree_at m))) c)
    (meanings.Scalar (type_in (kind_at m)) false (length env.variables))
load_adds env m c inner =
    let s = span_of (tree_at m) in
    let of = type_in (kind_at m) in
    declared_adds env s (type_word of) s.first s.last none (declared_with None false of)
    (component_name (helper s) c) (helped_element s c) inner (type_of env of s)
    (component_is_name (helper s) c (helper_name s).0) tt (refl, helped_behind (numbered env of) s c)

pub load_is : (env : Env) (m : Mark) (c : ℕ) (space : Space) (constant fixed : Bool) (r : Root) (y : ℕ)
    (sites : List Place) → 2 ≤ length env.scopes → env.flags ≡ false → c ≤ 16 →
    meaning_of env (helper (span_of (tree_at m))) ≡
    Some (meanings.Pointer space (type_in (kind_at m)) constant r fixed y) →
    (meant env sites (load_line m c)).piece.what ≡ lines (alone (tree.Declare (length env.variables)
    (Some (Apply (tree.Load (length sites) (type_in (kind_at m)) r) (single (index_of y c))))))
load_is env m c space constant fixed r y sites inner flags small p =
    let s = span_of (tree_at m) in
    let of = type_in (kind_at m) in
    let e = helped_meant (numbered env of) sites s c space of constant fixed r y flags small p in
    declared_meant env s (type_word of) s.first s.last none (declared_with None false of)
    (component_name (helper s) c) (helped_element s c) inner (type_of env of s)
    (component_is_name (helper s) c (helper_name s).0) sites tt (refl, helped_behind (numbered env of) s c) ∙
    (ap (λ z. lines (alone (tree.Declare (length env.variables) (Some (operand of z.piece))))) e ∙
    ap (λ z. lines (alone (tree.Declare (length env.variables) (Some z))))
    (operand_same of (record {
      kind = Some (kinds.Number of (reach.Element space constant r));
      what = target (element (length sites) of r (index_of y c));
    }) (reach.Element space constant r) refl))

-- ---- a component is set

-- a value of a type, which declares nothing
abbrev pub IsValueAt : Env → IntType → Syntax → Type 0
IsValueAt env of e = (behind env e ≡ env) × ((r : Reach) × (kind_of env e ≡ Some (kinds.Number of r)))

pub set_behind : (env : Env) (x : Named) (c : ℕ) (e : Syntax) → behind env e ≡ env →
    behind env (set_line None x c e) ≡ env
set_behind env x c e h =
    let s = x.span in
    simple_behind env (codes ";") s.first s.last (assigned_at (codes "=") s (component_at x c) e)
    (assign_behind env (codes "=") s.first s.last (component_at x c) e
    (variable_behind env (component_name x.name c) s.first s.last) h)

pub set_is : (env : Env) (x : Named) (c : ℕ) (e : Syntax) (of : IntType) (constant : Bool) (y : ℕ)
    (sites : List Place) → env.flags ≡ false → HasNoBlank x.name → IsValueAt env of e →
    meaning_of env (component_name x.name c) ≡ Some (meanings.Scalar of constant y) →
    (meant env sites (set_line None x c e)).piece.what ≡
    statement (tree.Do (Apply (tree.Set y) (single (read (meant env sites e).piece.what))))
set_is env x c e of constant y sites flags n v m =
    let s = x.span in
    let a = component_meant env sites x c of constant y flags n m in
    let p = (meant env sites e).piece in
    simple_meant env sites (codes ";") s.first s.last (assigned_at (codes "=") s (component_at x c) e)
    (Apply (tree.Set y) (single (read p.what)))
    (assign_meant env sites (codes "=") s.first s.last (component_at x c) e
    (variable_behind env (component_name x.name c) s.first s.last) plain_setting ∙
    (ap (λ z. set_what settings.Plain z.piece (meant env z.sites e).piece z.piece.kind) a ∙
    ap (λ z. assigned (target (variable y)) z)
    (operand_same of p v.1.0 (sym (meant_kind env sites e) ∙ v.1.1))))

-- a component is declared with its value
module _ (env : Env) (type : Mark) (x : Named) (c : ℕ) (e : Syntax) (w : List ℕ) (f l : ℕ) (parts : Forest)
    (d : Declared) (inner : 2 ≤ length env.scopes) (is : scalar type ≡ node forms.TypeNode w f l parts)
    (typed : IsTyped env w f l parts d) (own : IsOwn d.space) (n : HasNoBlank x.name) where
  pub initial_adds : IsInitialAt (behind_typed env d) e →
      Adds env (behind env (set_line (Some type) x c e)) (component_name x.name c)
      (meanings.Scalar d.of d.constant (length env.variables))
  initial_adds h =
      subst (λ t. Adds env (behind env (declared_at x.span t (component_name x.name c) (forest1 e)))
      (component_name x.name c) (meanings.Scalar d.of d.constant (length env.variables))) (sym is)
      (declared_adds env x.span w f l parts d (component_name x.name c) e inner typed (component_is_name x.name c n)
      own h)

  pub initial_is : (sites : List Place) → IsInitialAt (behind_typed env d) e → IsValueAt (behind_typed env d) d.of e →
      (meant env sites (set_line (Some type) x c e)).piece.what ≡ lines (alone (tree.Declare (length env.variables)
      (Some (read (meant (behind_typed env d) sites e).piece.what))))
  initial_is sites h v =
      let u = behind_typed env d in
      ap (λ t. (meant env sites (declared_at x.span t (component_name x.name c) (forest1 e))).piece.what) is ∙
      (declared_meant env x.span w f l parts d (component_name x.name c) e inner typed (component_is_name x.name c n)
      sites own h ∙
      ap (λ z. lines (alone (tree.Declare (length env.variables) (Some z))))
      (operand_same d.of (meant u sites e).piece v.1.0 (sym (meant_kind u sites e) ∙ v.1.1)))

-- ---- a component of an element is set

pub store_behind : (env : Env) (m : Mark) (c : ℕ) (e : Syntax) → behind env e ≡ env →
    behind env (store_line m c e) ≡ env
store_behind env m c e h =
    let s = span_of (tree_at m) in
    simple_behind env (codes ";") s.first s.last (assigned_at (codes "=") s (helped_element s c) e)
    (assign_behind env (codes "=") s.first s.last (helped_element s c) e (helped_behind env s c) h)

pub store_is : (env : Env) (m : Mark) (c : ℕ) (e : Syntax) (space : Space) (of : IntType) (constant fixed : Bool)
    (r : Root) (y : ℕ) (sites : List Place) → env.flags ≡ false → c ≤ 16 → IsValueAt env of e →
    meaning_of env (helper (span_of (tree_at m))) ≡ Some (meanings.Pointer space of constant r fixed y) →
    (meant env sites (store_line m c e)).piece.what ≡ statement (tree.Do
    (Apply (tree.Store (length sites) of r) (pair (index_of y c)
    (read (meant env (sites ++ place_of env (span_of (tree_at m)).first ∷ []) e).piece.what))))
store_is env m c e space of constant fixed r y sites flags small v p =
    let s = span_of (tree_at m) in
    let a = helped_meant env sites s c space of constant fixed r y flags small p in
    let after = sites ++ place_of env s.first ∷ [] in
    let b = (meant env after e).piece in
    simple_meant env sites (codes ";") s.first s.last (assigned_at (codes "=") s (helped_element s c) e)
    (Apply (tree.Store (length sites) of r) (pair (index_of y c) (read b.what)))
    (assign_meant env sites (codes "=") s.first s.last (helped_element s c) e (helped_behind env s c) plain_setting ∙
    (ap (λ z. set_what settings.Plain z.piece (meant env z.sites e).piece z.piece.kind) a ∙
    ap (λ z. assigned (target (element (length sites) of r (index_of y c))) z)
    (operand_same of b v.1.0 (sym (meant_kind env after e) ∙ v.1.1))))
