-- What the declaration of one variable with an initialiser stands for, and what is visible behind it.
use Rattle.std.proofs.Common.{◌≡◌, ℕ, suc, Bool, true, false, List, [], ◌∷◌, length, Option, Some, None}
use Rattle.std.proofs.Common.{if◌then◌else◌, refl, ap, ◌∙◌}
use Rattle.wg_num.specs.declared.types.Place.{Place}
use Rattle.cl_model.specs.declared.program.Space.TheVariants as spaces
use Rattle.cl_model.specs.declared.program.VarKind.{VarKind}
use Rattle.cl_model.specs.declared.program.VarKind.TheVariants as var_kinds
use Rattle.cl_model.specs.Tree as tree
use Rattle.cl_model.specs.Tree.{Expression}
use Rattle.cl_tree.specs.declared.tree.Form.TheVariants as forms
use Rattle.cl_tree.specs.Syntax.{Syntax, node, Forest, none, more, last_of}
use Rattle.cl_meaning.specs.declared.types.Declared.{Declared}
use Rattle.cl_meaning.specs.Spelling.{name_in, declared_in, is_const, dimensions_in, is_set}
use Rattle.cl_meaning.specs.declared.kind.Meaning.{Meaning}
use Rattle.cl_meaning.specs.declared.kind.Meaning.TheVariants as meanings
use Rattle.cl_meaning.specs.Environment.{Env, place_of, into_last}
use Rattle.cl_meaning.specs.Declarations.{is_star, word_of, Declarator, declarator_in, but_last, last_one, listed, firm}
use Rattle.cl_meaning.specs.Declarations.{with_variable, with_declarator, with_scalar, kept_in, pointed_space, root_of}
use Rattle.cl_meaning.specs.Visible.{inside, later, restored, left, closed, behind, behind_parts, kind_of, kinds_of}
use Rattle.cl_meaning.specs.Typed.{lines}
use Rattle.cl_meaning.specs.Expressions.{read, operand}
use Rattle.cl_meaning.specs.Statements.{alone, all_lines, declarator_made, scalar_made}
use Rattle.cl_meaning.specs.Meant.{make, meant, parts_meant}
use Rattle.cl_short_vec_correct.proofs.Adds.{take_same, into_length}
use Rattle.cl_short_vec_correct.proofs.Pieces.{closed_same, star_behind}

-- what is visible at a declarator behind a type
abbrev pub behind_typed : Env → Declared → Env
behind_typed env d = record env { declared = Some d }

-- ---- the declarator

-- a declarator of a variable with an initialiser, and a star or none
abbrev pub set_declarator : List ℕ → (token : ℕ) → Option Bool → Syntax → Declarator
set_declarator name token star e = record {
  name = name;
  token = token;
  star = star;
  dimensions = 0;
  lengths = [];
  init = Some e;
}

abbrev number_declarator : List ℕ → ℕ → Syntax → ℕ → (set star : Bool) → Declarator
number_declarator name f e dimensions set star = record {
  name = name;
  token = if star then suc (last_of e) else f;
  star = if star then Some (is_const (word_of e)) else None;
  dimensions = dimensions;
  lengths = if set then but_last (listed (if star then none else more e none)) else
      listed (if star then none else more e none);
  init = if set then last_one (listed (if star then none else more e none)) else None;
}

pub number_declares : (w name : List ℕ) (f : ℕ) (e : Syntax) → name_in w ≡ name → dimensions_in w ≡ 0 →
    is_set w ≡ true → is_star e ≡ false → declarator_in w f (more e none) ≡ set_declarator name f None e
number_declares w name f e n d s h =
    ap (λ z. number_declarator z f e (dimensions_in w) (is_set w) (is_star e)) n ∙
    (ap (λ z. number_declarator name f e z (is_set w) (is_star e)) d ∙
    (ap (λ z. number_declarator name f e 0 z (is_star e)) s ∙
    ap (λ z. number_declarator name f e 0 true z) h))

abbrev pointer_declarator : List ℕ → ℕ → Bool → Syntax → ℕ → (set : Bool) → Declarator
pointer_declarator name token fixed e dimensions set = record {
  name = name;
  token = token;
  star = Some fixed;
  dimensions = dimensions;
  lengths = if set then but_last (listed (more e none)) else listed (more e none);
  init = if set then last_one (listed (more e none)) else None;
}

pub pointer_declares : (w name ws : List ℕ) (f fs ls : ℕ) (fixed : Bool) (e : Syntax) → name_in w ≡ name →
    dimensions_in w ≡ 0 → is_set w ≡ true → is_const ws ≡ fixed →
    declarator_in w f (more (node forms.StarNode ws fs ls none) (more e none)) ≡
    set_declarator name (suc ls) (Some fixed) e
pointer_declares w name ws f fs ls fixed e n d s h =
    ap (λ z. pointer_declarator z (suc ls) (is_const ws) e (dimensions_in w) (is_set w)) n ∙
    (ap (λ z. pointer_declarator name (suc ls) (is_const ws) e z (is_set w)) d ∙
    (ap (λ z. pointer_declarator name (suc ls) (is_const ws) e 0 z) s ∙
    ap (λ z. pointer_declarator name (suc ls) z e 0 true) h))

-- ---- what is visible behind the declarator

pub number_behind_declarator : (env : Env) (d : Declared) (w name : List ℕ) (f l : ℕ) (e : Syntax) →
    env.declared ≡ Some d → behind env e ≡ env → kept_in env d ≡ spaces.Private →
    declarator_in w f (more e none) ≡ set_declarator name f None e →
    behind env (node forms.DeclaratorNode w f l (more e none)) ≡
    with_variable env name f (var_kinds.Scalar d.of) (meanings.Scalar d.of d.constant (length env.variables))
unfolding behind behind_parts kinds_of left restored inside later
number_behind_declarator env d w name f l e hd he hk hx =
    ap (λ v. with_declarator v v.declared (declarator_in w f (more e none)) (kind_of env e))
    (ap (closed env) he ∙ closed_same env) ∙
    (ap (λ z. with_declarator env z (declarator_in w f (more e none)) (kind_of env e)) hd ∙
    (ap (λ z. with_declarator env (Some d) z (kind_of env e)) hx ∙
    ap (λ z. with_scalar env d (set_declarator name f None e) z) hk))

pub pointer_behind_declarator : (env : Env) (d : Declared) (w name ws : List ℕ) (f l fs ls : ℕ) (fixed : Bool)
    (e : Syntax) → env.declared ≡ Some d → behind env e ≡ env →
    declarator_in w f (more (node forms.StarNode ws fs ls none) (more e none)) ≡
    set_declarator name (suc ls) (Some fixed) e →
    behind env (node forms.DeclaratorNode w f l (more (node forms.StarNode ws fs ls none) (more e none))) ≡
    with_variable env name (suc ls) (var_kinds.Pointer (pointed_space d) d.of (root_of (kind_of env e)))
    (meanings.Pointer (pointed_space d) d.of d.constant (root_of (kind_of env e)) fixed (length env.variables))
unfolding behind behind_parts kinds_of left restored inside later
pointer_behind_declarator env d w name ws f l fs ls fixed e hd he hx =
    let star = node forms.StarNode ws fs ls none in
    ap (λ s. with_declarator (closed env (behind s e)) (closed env (behind s e)).declared
    (declarator_in w f (more star (more e none))) (kind_of s e)) (star_behind env ws fs ls) ∙
    (ap (λ v. with_declarator v v.declared (declarator_in w f (more star (more e none))) (kind_of env e))
    (ap (closed env) he ∙ closed_same env) ∙
    (ap (λ z. with_declarator env z (declarator_in w f (more star (more e none))) (kind_of env e)) hd ∙
    ap (λ z. with_declarator env (Some d) z (kind_of env e)) hx))

-- ---- what the declarator stands for

pub number_declared : (env : Env) (sites : List Place) (d : Declared) (w name : List ℕ) (f l : ℕ) (e : Syntax) →
    env.declared ≡ Some d → behind env e ≡ env → kept_in env d ≡ spaces.Private →
    declarator_in w f (more e none) ≡ set_declarator name f None e →
    (meant env sites (node forms.DeclaratorNode w f l (more e none))).piece.what ≡
    lines (alone (tree.Declare (length env.variables) (Some (operand d.of (meant env sites e).piece))))
unfolding meant parts_meant make behind_parts restored inside later
number_declared env sites d w name f l e hd he hk hx =
    let p = (meant env sites e).piece in
    let after = (meant env sites e).sites in
    ap (λ v. (declarator_made v (place_of v f) after v.declared (declarator_in w f (more e none)) (p ∷ [])).what)
    (ap (closed env) he ∙ closed_same env) ∙
    (ap (λ z. (declarator_made env (place_of env f) after z (declarator_in w f (more e none)) (p ∷ [])).what) hd ∙
    (ap (λ z. (declarator_made env (place_of env f) after (Some d) z (p ∷ [])).what) hx ∙
    ap (λ z. (scalar_made env after (Some (operand d.of p)) z).what) hk))

pub pointer_declared : (env : Env) (sites : List Place) (d : Declared) (w name ws : List ℕ) (f l fs ls : ℕ)
    (fixed : Bool) (e : Syntax) → env.declared ≡ Some d → behind env e ≡ env →
    declarator_in w f (more (node forms.StarNode ws fs ls none) (more e none)) ≡
    set_declarator name (suc ls) (Some fixed) e →
    (meant env sites (node forms.DeclaratorNode w f l
    (more (node forms.StarNode ws fs ls none) (more e none)))).piece.what ≡
    lines (alone (tree.Declare (length env.variables) (Some (read (meant env sites e).piece.what))))
unfolding meant parts_meant make behind_parts restored inside later
pointer_declared env sites d w name ws f l fs ls fixed e hd he hx =
    let star = node forms.StarNode ws fs ls none in
    let s = (meant env sites star).piece in
    ap (λ v. (declarator_made (closed env (behind v e)) (place_of (closed env (behind v e)) f)
    (meant v sites e).sites (closed env (behind v e)).declared (declarator_in w f (more star (more e none)))
    (s ∷ ((meant v sites e).piece ∷ []))).what) (star_behind env ws fs ls) ∙
    (ap (λ v. (declarator_made v (place_of v f) (meant env sites e).sites v.declared
    (declarator_in w f (more star (more e none))) (s ∷ ((meant env sites e).piece ∷ []))).what)
    (ap (closed env) he ∙ closed_same env) ∙
    (ap (λ z. (declarator_made env (place_of env f) (meant env sites e).sites z
    (declarator_in w f (more star (more e none))) (s ∷ ((meant env sites e).piece ∷ []))).what) hd ∙
    ap (λ z. (declarator_made env (place_of env f) (meant env sites e).sites (Some d) z
    (s ∷ ((meant env sites e).piece ∷ []))).what) hx))

-- ---- the declaration

-- a type, which declares nothing and takes no site
pub record IsTyped (env : Env) (w : List ℕ) (f l : ℕ) (parts : Forest) (d : Declared) : Type 0 where
  pub declares : declared_in (node forms.TypeNode w f l parts) ≡ Some d
  pub same : behind env (node forms.TypeNode w f l parts) ≡ env
  pub sites : (sites : List Place) → (meant env sites (node forms.TypeNode w f l parts)).sites ≡ sites

-- what was opened in front of one more variable is closed
closed_variable : (env : Env) (d : Declared) (name : List ℕ) (token : ℕ) (kind : VarKind) (m : Meaning) →
    closed env (with_variable (behind_typed env d) name token kind m) ≡ with_variable env name token kind m
closed_variable env d name token kind m = ap (λ z. record (with_variable env name token kind m) { scopes = z })
    (take_same env.scopes (into_last env.scopes name (firm m)) (into_length env.scopes name (firm m)))

pub declaration_behind : (env : Env) (w wt wx name : List ℕ) (f l ft lt fx lx token : ℕ) (types parts : Forest)
    (d : Declared) (kind : VarKind) (m : Meaning) → IsTyped env wt ft lt types d →
    behind (behind_typed env d) (node forms.DeclaratorNode wx fx lx parts) ≡
    with_variable (behind_typed env d) name token kind m →
    behind env (node forms.DeclareNode w f l (more (node forms.TypeNode wt ft lt types)
    (more (node forms.DeclaratorNode wx fx lx parts) none))) ≡ with_variable env name token kind m
unfolding behind behind_parts left restored inside later
declaration_behind env w wt wx name f l ft lt fx lx token types parts d kind m t h =
    ap (λ e. closed env (behind (record e { declared = declared_in (node forms.TypeNode wt ft lt types) })
    (node forms.DeclaratorNode wx fx lx parts))) t.same ∙
    (ap (λ z. closed env (behind (record env { declared = z }) (node forms.DeclaratorNode wx fx lx parts)))
    t.declares ∙ (ap (closed env) h ∙ closed_variable env d name token kind m))

pub declaration_meant : (env : Env) (sites : List Place) (w wt wx : List ℕ) (f l ft lt fx lx : ℕ)
    (types parts : Forest) (d : Declared) (s : tree.Statement) → IsTyped env wt ft lt types d →
    (meant (behind_typed env d) sites (node forms.DeclaratorNode wx fx lx parts)).piece.what ≡ lines (alone s) →
    (meant env sites (node forms.DeclareNode w f l (more (node forms.TypeNode wt ft lt types)
    (more (node forms.DeclaratorNode wx fx lx parts) none)))).piece.what ≡ lines (alone s)
unfolding meant parts_meant make behind_parts inside later
declaration_meant env sites w wt wx f l ft lt fx lx types parts d s t h =
    let type = node forms.TypeNode wt ft lt types in
    let x = node forms.DeclaratorNode wx fx lx parts in
    ap (λ e. lines (all_lines ((meant env sites type).piece ∷
    ((meant (record e { declared = declared_in type }) (meant env sites type).sites x).piece ∷ [])))) t.same ∙
    (ap (λ z. lines (all_lines ((meant env sites type).piece ∷
    ((meant (record env { declared = z }) (meant env sites type).sites x).piece ∷ [])))) t.declares ∙
    (ap (λ z. lines (all_lines ((meant env sites type).piece ∷ ((meant (behind_typed env d) z x).piece ∷ []))))
    (t.sites sites) ∙
    ap (λ z. lines (all_lines ((meant env sites type).piece ∷
    (record { kind = (meant (behind_typed env d) sites x).piece.kind; what = z } ∷ [])))) h))

-- ---- types

pub plain_typed : (env : Env) (w : List ℕ) (f l : ℕ) (d : Declared) →
    declared_in (node forms.TypeNode w f l none) ≡ Some d → IsTyped env w f l none d
unfolding behind left restored inside meant parts_meant make
plain_typed env w f l d h = record { declares = h; same = closed_same env; sites = λ sites. refl }

pub spaced_typed : (env : Env) (w ws : List ℕ) (f l fs ls : ℕ) (d : Declared) →
    declared_in (node forms.TypeNode w f l (more (node forms.SpaceNode ws fs ls none) none)) ≡ Some d →
    IsTyped env w f l (more (node forms.SpaceNode ws fs ls none) none) d
unfolding behind behind_parts left restored inside later meant parts_meant make
spaced_typed env w ws f l fs ls d h = record {
  declares = h;
  same = ap (closed env) (closed_same env) ∙ closed_same env;
  sites = λ sites. refl;
}
