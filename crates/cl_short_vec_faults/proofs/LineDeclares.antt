-- The declaration of one variable with an initialiser is at fault at no node, and declares it.
use Rattle.std.proofs.Common.{◌≡◌, ℕ, suc, ◌≤◌, Bool, true, false, not, ◌&&◌, ◌||◌, nat_eq, nat_le, List, [], ◌∷◌}
use Rattle.std.proofs.Common.{length, Option}
use Rattle.std.proofs.Common.{Some, None, if◌then◌else◌, refl, ap, sym, ◌∙◌, subst, arith}
use Rattle.std.proofs.lemmas.Bool.{false≢true}
use Rattle.std.specs.Prelude.{codes, ◌++◌, ◌-◌}
use Rattle.wg_num.specs.declared.types.IntType.{IntType}
use Rattle.wg_num.specs.declared.types.IntType.TheVariants as types
use Rattle.wg_num.specs.Types.{same_type}
use Rattle.cl_model.specs.declared.program.Root.{Root}
use Rattle.cl_model.specs.declared.program.Space.{Space}
use Rattle.cl_model.specs.declared.program.Space.TheVariants as spaces
use Rattle.cl_model.specs.declared.program.VarKind.{VarKind}
use Rattle.cl_model.specs.declared.program.VarKind.TheVariants as var_kinds
use Rattle.cl_tree.specs.declared.tree.Form.{Form}
use Rattle.cl_tree.specs.declared.tree.Form.TheVariants as forms
use Rattle.cl_tree.specs.Syntax.{Syntax, node, Forest, none, more, last_of}
use Rattle.cl_tree.specs.Nodes.{forest1, forest2}
use Rattle.cl_meaning.specs.declared.types.Declared.{Declared}
use Rattle.cl_meaning.specs.Spelling.{name_in, declared_in, is_const, dimensions_in, is_set}
use Rattle.cl_meaning.specs.declared.fault.Fault.{Fault}
use Rattle.cl_meaning.specs.declared.fault.Fault.TheVariants as faults
use Rattle.cl_meaning.specs.declared.kind.Each.TheVariants as each
use Rattle.cl_meaning.specs.declared.kind.Reach.{Reach}
use Rattle.cl_meaning.specs.declared.kind.Kind.{Kind}
use Rattle.cl_meaning.specs.declared.kind.Kind.TheVariants as kinds
use Rattle.cl_meaning.specs.declared.kind.Meaning.{Meaning}
use Rattle.cl_meaning.specs.declared.kind.Meaning.TheVariants as meanings
use Rattle.cl_meaning.specs.declared.kind.Role.{Role}
use Rattle.cl_meaning.specs.declared.kind.Role.TheVariants as roles
use Rattle.cl_meaning.specs.Environment.{Env, into_last, is_declared, at_unit}
use Rattle.cl_meaning.specs.Kinds.{is_some, same_space, kind_step}
use Rattle.cl_meaning.specs.Declarations.{is_star, is_list, word_of, Declarator, declarator_in, but_last, last_one}
use Rattle.cl_meaning.specs.Declarations.{listed, firm, with_variable, with_declarator, with_scalar, kept_in}
use Rattle.cl_meaning.specs.Declarations.{pointed_space}
use Rattle.cl_meaning.specs.Declarations.{root_of, last_kind}
use Rattle.cl_meaning.specs.Visible.{inside, later, restored, left, closed, behind, behind_parts, kind_of, kinds_of}
use Rattle.cl_meaning.specs.Faults.{Asked, Looked, at_fault, looked_at, given, declarator_misfits, is_misplaced}
use Rattle.cl_meaning.specs.Faults.{is_tested}
use Rattle.cl_meaning.specs.Faults.{is_known_name, misfits}
use Rattle.cl_check_sound.specs.Shape.{is_expression, OfExpressions}
use Rattle.cl_check_sound.specs.Sound.{SoundTree}
use Rattle.cl_check_sound.proofs.Neutral.{closed_same, neutral}
use Rattle.cl_short_vec.specs.declared.nodes.Span.{Span}
use Rattle.cl_short_vec.specs.Nodes.{declared_at, star_at}
use Rattle.cl_short_vec_faults.proofs.Building.{seen, NoFault, Good}
use Rattle.cl_short_vec_faults.proofs.PartNodes.{GoodNumber}
use Rattle.cl_short_vec_faults.proofs.LineWords.{IsName, set_name, set_is_set, set_dimensions}
use Rattle.cl_short_vec_faults.proofs.LineAdds.{Adds, take_same, into_length, variable_adds, inner_scope, IsOwn}
use Rattle.cl_short_vec_faults.proofs.LineAdds.{kept_own}

-- what is visible at a declarator behind a type
abbrev pub behind_typed : Env → Declared → Env
behind_typed env d = record env { declared = Some d }

-- ---- the declarator

-- a declarator of a variable with an initialiser, and a star or none
abbrev pub set_declarator : List ℕ → (token : ℕ) → Option Bool → Syntax → Declarator
set_declarator name token star e = record {
  name = name;
  token = token;
  star = star;
  dimensions = 0;
  lengths = [];
  init = Some e;
}

abbrev number_declarator : List ℕ → ℕ → Syntax → ℕ → (set star : Bool) → Declarator
number_declarator name f e dimensions set star = record {
  name = name;
  token = if star then suc (last_of e) else f;
  star = if star then Some (is_const (word_of e)) else None;
  dimensions = dimensions;
  lengths = if set then but_last (listed (if star then none else more e none)) else
      listed (if star then none else more e none);
  init = if set then last_one (listed (if star then none else more e none)) else None;
}

pub number_declares : (w name : List ℕ) (f : ℕ) (e : Syntax) → name_in w ≡ name → dimensions_in w ≡ 0 →
    is_set w ≡ true → is_star e ≡ false → declarator_in w f (more e none) ≡ set_declarator name f None e
number_declares w name f e n d s h =
    ap (λ z. number_declarator z f e (dimensions_in w) (is_set w) (is_star e)) n ∙
    (ap (λ z. number_declarator name f e z (is_set w) (is_star e)) d ∙
    (ap (λ z. number_declarator name f e 0 z (is_star e)) s ∙
    ap (λ z. number_declarator name f e 0 true z) h))

abbrev pointer_declarator : List ℕ → ℕ → Bool → Syntax → ℕ → (set : Bool) → Declarator
pointer_declarator name token fixed e dimensions set = record {
  name = name;
  token = token;
  star = Some fixed;
  dimensions = dimensions;
  lengths = if set then but_last (listed (more e none)) else listed (more e none);
  init = if set then last_one (listed (more e none)) else None;
}

pub pointer_declares : (w name ws : List ℕ) (f fs ls : ℕ) (fixed : Bool) (e : Syntax) → name_in w ≡ name →
    dimensions_in w ≡ 0 → is_set w ≡ true → is_const ws ≡ fixed →
    declarator_in w f (more (node forms.StarNode ws fs ls none) (more e none)) ≡
    set_declarator name (suc ls) (Some fixed) e
pointer_declares w name ws f fs ls fixed e n d s h =
    ap (λ z. pointer_declarator z (suc ls) (is_const ws) e (dimensions_in w) (is_set w)) n ∙
    (ap (λ z. pointer_declarator name (suc ls) (is_const ws) e z (is_set w)) d ∙
    (ap (λ z. pointer_declarator name (suc ls) (is_const ws) e 0 z) s ∙
    ap (λ z. pointer_declarator name (suc ls) z e 0 true) h))

-- ---- what is visible behind the declarator

star_behind : (env : Env) (w : List ℕ) (f l : ℕ) → behind env (node forms.StarNode w f l none) ≡ env
unfolding behind left restored inside
star_behind env w f l = closed_same env

pub number_behind_declarator : (env : Env) (d : Declared) (w name : List ℕ) (f l : ℕ) (e : Syntax) →
    env.declared ≡ Some d → behind env e ≡ env → kept_in env d ≡ spaces.Private →
    declarator_in w f (more e none) ≡ set_declarator name f None e →
    behind env (node forms.DeclaratorNode w f l (more e none)) ≡
    with_variable env name f (var_kinds.Scalar d.of) (meanings.Scalar d.of d.constant (length env.variables))
unfolding behind behind_parts kinds_of left restored inside later
number_behind_declarator env d w name f l e hd he hk hx =
    ap (λ v. with_declarator v v.declared (declarator_in w f (more e none)) (kind_of env e))
    (ap (closed env) he ∙ closed_same env) ∙
    (ap (λ z. with_declarator env z (declarator_in w f (more e none)) (kind_of env e)) hd ∙
    (ap (λ z. with_declarator env (Some d) z (kind_of env e)) hx ∙
    ap (λ z. with_scalar env d (set_declarator name f None e) z) hk))

pub pointer_behind_declarator : (env : Env) (d : Declared) (w name ws : List ℕ) (f l fs ls : ℕ) (fixed : Bool)
    (e : Syntax) → env.declared ≡ Some d → behind env e ≡ env →
    declarator_in w f (more (node forms.StarNode ws fs ls none) (more e none)) ≡
    set_declarator name (suc ls) (Some fixed) e →
    behind env (node forms.DeclaratorNode w f l (more (node forms.StarNode ws fs ls none) (more e none))) ≡
    with_variable env name (suc ls) (var_kinds.Pointer (pointed_space d) d.of (root_of (kind_of env e)))
    (meanings.Pointer (pointed_space d) d.of d.constant (root_of (kind_of env e)) fixed (length env.variables))
unfolding behind behind_parts kinds_of left restored inside later
pointer_behind_declarator env d w name ws f l fs ls fixed e hd he hx =
    let star = node forms.StarNode ws fs ls none in
    ap (λ s. with_declarator (closed env (behind s e)) (closed env (behind s e)).declared
    (declarator_in w f (more star (more e none))) (kind_of s e)) (star_behind env ws fs ls) ∙
    (ap (λ v. with_declarator v v.declared (declarator_in w f (more star (more e none))) (kind_of env e))
    (ap (closed env) he ∙ closed_same env) ∙
    (ap (λ z. with_declarator env z (declarator_in w f (more star (more e none))) (kind_of env e)) hd ∙
    ap (λ z. with_declarator env (Some d) z (kind_of env e)) hx))

-- ---- the declaration

-- a type within the profile, which declares nothing by itself
pub record IsTyped (asked : Asked) (env : Env) (w : List ℕ) (f l : ℕ) (parts : Forest) (d : Declared) : Type 0 where
  pub declares : declared_in (node forms.TypeNode w f l parts) ≡ Some d
  pub same : behind env (node forms.TypeNode w f l parts) ≡ env
  pub sound : SoundTree asked env roles.Other (node forms.TypeNode w f l parts)

-- what was opened in front of one more variable is closed
closed_variable : (env : Env) (d : Declared) (name : List ℕ) (token : ℕ) (kind : VarKind) (m : Meaning) →
    closed env (with_variable (behind_typed env d) name token kind m) ≡ with_variable env name token kind m
closed_variable env d name token kind m = ap (λ z. record (with_variable env name token kind m) { scopes = z })
    (take_same env.scopes (into_last env.scopes name (firm m)) (into_length env.scopes name (firm m)))

pub declaration_behind : (env : Env) (w wt wx name : List ℕ) (f l ft lt fx lx token : ℕ) (types parts : Forest)
    (d : Declared) (kind : VarKind) (m : Meaning) (asked : Asked) →
    IsTyped asked env wt ft lt types d →
    behind (behind_typed env d) (node forms.DeclaratorNode wx fx lx parts) ≡
    with_variable (behind_typed env d) name token kind m →
    behind env (node forms.DeclareNode w f l (more (node forms.TypeNode wt ft lt types)
    (more (node forms.DeclaratorNode wx fx lx parts) none))) ≡ with_variable env name token kind m
unfolding behind behind_parts left restored inside later
declaration_behind env w wt wx name f l ft lt fx lx token types parts d kind m asked t h =
    ap (λ e. closed env (behind (record e { declared = declared_in (node forms.TypeNode wt ft lt types) })
    (node forms.DeclaratorNode wx fx lx parts))) t.same ∙
    (ap (λ z. closed env (behind (record env { declared = z }) (node forms.DeclaratorNode wx fx lx parts)))
    t.declares ∙ (ap (closed env) h ∙ closed_variable env d name token kind m))

-- ---- the declarator

either : (a b : Bool) → a ≡ false → b ≡ false → (a || b) ≡ false
either false b e h = h
either true b e h = absurd (false≢true (sym e))

first_no : (a b : Bool) → a ≡ false → (a && b) ≡ false
first_no false b e = refl
first_no true b e = absurd (false≢true (sym e))

expression_no_list : (form : Form) (w : List ℕ) (f l : ℕ) (parts : Forest) → is_expression form ≡ true →
    is_list (Some (node form w f l parts)) ≡ false
expression_no_list forms.ListNode w f l parts e = absurd (false≢true e)
expression_no_list _ w f l parts e = refl

expression_no_star : (form : Form) (w : List ℕ) (f l : ℕ) (parts : Forest) → is_expression form ≡ true →
    is_star (node form w f l parts) ≡ false
expression_no_star forms.StarNode w f l parts e = absurd (false≢true e)
expression_no_star _ w f l parts e = refl

-- a declarator of one variable, of a new name, inside a function
pub declarator_fine : (asked : Asked) (u : Env) (w : List ℕ) (f : ℕ) (parts : Forest) (ks : List (Option Kind))
    (d : Declared) (name : List ℕ) (token : ℕ) (star : Option Bool) (e : Syntax) →
    u.declared ≡ Some d → name_in w ≡ name → declarator_in w f parts ≡ set_declarator name token star e →
    is_declared u name ≡ false → at_unit u ≡ false →
    declarator_misfits (Some d) (set_declarator name token star e) (last_kind ks) ≡ false →
    (not (is_some star) && is_misplaced (seen u roles.Other forms.DeclaratorNode w f parts ks)
    (set_declarator name token star e) d.space) ≡ false →
    NoFault asked (seen u roles.Other forms.DeclaratorNode w f parts ks)
unfolding misfits
declarator_fine asked u w f parts ks d name token star e hd hn hx fresh inner fit own = by
  where
    n : Looked
    n = seen u roles.Other forms.DeclaratorNode w f parts ks

    x : Declarator
    x = set_declarator name token star e

    by : (k : Fault) → at_fault asked (seen u roles.Other forms.DeclaratorNode w f parts ks) k ≡ false
    by faults.DeclaredTwice = either (is_declared u (name_in w)) (is_known_name u (name_in w))
        (ap (is_declared u) hn ∙ fresh) (first_no (at_unit u) _ inner)
    by faults.OperandTypes = either (declarator_misfits u.declared (declarator_in w f parts) (last_kind ks)) _
        (ap (λ z. declarator_misfits z (declarator_in w f parts) (last_kind ks)) hd ∙
        ap (λ z. declarator_misfits (Some d) z (last_kind ks)) hx ∙ fit) refl
    by faults.LocalMisplaced =
        ap (λ z. given z (λ d. not (is_some (declarator_in w f parts).star) &&
        is_misplaced (seen u roles.Other forms.DeclaratorNode w f parts ks) (declarator_in w f parts) d.space)) hd ∙
        ap (λ (z : Declarator). not (is_some z.star) &&
        is_misplaced (seen u roles.Other forms.DeclaratorNode w f parts ks) z d.space) hx ∙ own
    by faults.ProgramVariable = first_no (at_unit u) _ inner
    by faults.PointerRoot =
        ap (λ (z : Declarator). is_some z.star && (nat_eq z.dimensions 0 && not (is_some z.init))) hx ∙ rooted star
      where
        rooted : (o : Option Bool) → (is_some o && false) ≡ false
        rooted None = refl
        rooted (Some b) = refl
    by faults.ArrayLength = first_no (nat_le 1 (declarator_in w f parts).dimensions) _
        (ap (λ (z : Declarator). nat_le 1 z.dimensions) hx)
    by _ = refl

-- ---- the declaration of a number

-- the declarator is looked at with what is visible in front of its parts
number_looked : (u : Env) (w : List ℕ) (f l : ℕ) (e : Syntax) (k : Option Kind) → behind u e ≡ u → kind_of u e ≡ k →
    looked_at u roles.Other (node forms.DeclaratorNode w f l (more e none)) ≡
    seen u roles.Other forms.DeclaratorNode w f (more e none) (k ∷ [])
unfolding inside restored later behind_parts kinds_of
number_looked u w f l e k h g =
    ap (λ z. seen (closed u z) roles.Other forms.DeclaratorNode w f (more e none) (kind_of u e ∷ [])) h ∙
    ap (λ z. seen z roles.Other forms.DeclaratorNode w f (more e none) (kind_of u e ∷ [])) (closed_same u) ∙
    ap (λ z. seen u roles.Other forms.DeclaratorNode w f (more e none) (z ∷ [])) g

pointer_looked : (u : Env) (w ws : List ℕ) (f l fs ls : ℕ) (e : Syntax) (k : Option Kind) → behind u e ≡ u →
    kind_of u e ≡ k →
    looked_at u roles.Other (node forms.DeclaratorNode w f l (more (node forms.StarNode ws fs ls none) (more e none))) ≡
    seen u roles.Other forms.DeclaratorNode w f (more (node forms.StarNode ws fs ls none) (more e none))
    (None ∷ (k ∷ []))
unfolding inside restored later behind_parts kinds_of kind_of kind_step
pointer_looked u w ws f l fs ls e k h g =
    let star = node forms.StarNode ws fs ls none in
    let parts = more star (more e none) in
    ap (λ z. seen (closed u (behind z e)) roles.Other forms.DeclaratorNode w f parts (None ∷ (kind_of z e ∷ [])))
    (star_behind u ws fs ls) ∙
    ap (λ z. seen (closed u z) roles.Other forms.DeclaratorNode w f parts (None ∷ (kind_of u e ∷ []))) h ∙
    ap (λ z. seen z roles.Other forms.DeclaratorNode w f parts (None ∷ (kind_of u e ∷ []))) (closed_same u) ∙
    ap (λ z. seen u roles.Other forms.DeclaratorNode w f parts (None ∷ (z ∷ []))) g

own_place : (n : Looked) (x : Declarator) (s : Option Space) → IsOwn s → is_misplaced n x s ≡ false
own_place n x None o = refl
own_place n x (Some spaces.Private) o = refl
own_place n x (Some s) o = absurd o

tested_no : (b : Bool) → (b && false) ≡ false
tested_no true = refl
tested_no false = refl

-- a declaration of one declarator is at fault at no node where the type and the declarator are at none
declaration_sound : (asked : Asked) (env : Env) (role : Role) (w wt : List ℕ) (f l ft lt : ℕ) (types : Forest)
    (x : Syntax) (d : Declared) → IsTyped asked env wt ft lt types d →
    SoundTree asked (behind_typed env d) roles.Other x →
    SoundTree asked env role (node forms.DeclareNode w f l (more (node forms.TypeNode wt ft lt types) (more x none)))
unfolding inside later misfits kind_step
declaration_sound asked env role w wt f l ft lt types x d t h = (
  (
    t.sound,
    (
      subst (λ z. SoundTree asked (record z { declared = declared_in (node forms.TypeNode wt ft lt types) })
          roles.Other x) (sym t.same) (subst (λ z. SoundTree asked (record env { declared = z }) roles.Other x)
          (sym t.declares) h),
      tt,
    ),
  ),
  (by, tt),
)
  where
    by : (k : Fault) → at_fault asked (looked_at env role
        (node forms.DeclareNode w f l (more (node forms.TypeNode wt ft lt types) (more x none)))) k ≡ false
    by faults.OperandTypes = tested_no (is_tested role)
    by _ = refl

-- what is behind a line that declares a variable with an initialiser
pub record Declares (asked : Asked) (env : Env) (role : Role) (name : List ℕ) (m : Meaning) (t : Syntax) : Type 0 where
  pub sound : SoundTree asked env role t
  pub adds : Adds env (behind env t) name m

module _ (asked : Asked) (env : Env) (role : Role) (s : Span) (w : List ℕ) (f l : ℕ) (parts : Forest) (d : Declared)
    (name : List ℕ) (e : Syntax) (typed : IsTyped asked env w f l parts d) (named : IsName name)
    (fresh : is_declared env name ≡ false) (inner : 2 ≤ length env.scopes) where
  -- the meaning of a number of that type
  abbrev pub number_meaning : Meaning
  number_meaning = meanings.Scalar d.of d.constant (length env.variables)

  pub number_declaration : IsOwn d.space → GoodNumber asked (behind_typed env d) e →
      Declares asked env role name number_meaning
      (declared_at s (node forms.TypeNode w f l parts) name (forest1 e))
  unfolding inside later
  number_declaration own g =
      let u = behind_typed env d in
      let b = neutral u e g.2.made in
      let star = no_star e g.2.made in
      let word = name ++ codes " =" in
      let is = number_declares word name s.first e (set_name name named.0) (set_dimensions name named)
      (set_is_set name named.0) star in
      let k = kinds.Number g.0 g.1 in record {
        sound = declaration_sound asked env role (codes ";") w s.first s.last f l parts
            (node forms.DeclaratorNode word s.first s.last (forest1 e)) d typed (
              (g.2.sound, tt),
              (
                subst (NoFault asked) (sym (number_looked u word s.first s.last e (Some k) b g.2.kind))
                    (declarator_fine asked u word s.first (forest1 e) (Some k ∷ []) d name s.first None e refl
                    (set_name name named.0) is fresh (inner_scope u inner) (fits e g.2.made) (own_place (seen u
                    roles.Other
                    forms.DeclaratorNode word s.first (forest1 e) (Some k ∷ [])) (set_declarator name s.first None e)
                    d.space
                    own)),
                tt,
              ),
            );
        adds = subst (λ to. Adds env to name number_meaning) (sym (declaration_behind env (codes ";") w word name
            s.first s.last f l s.first s.last s.first parts (forest1 e) d (var_kinds.Scalar d.of) number_meaning asked
            typed (number_behind_declarator u d word name s.first s.last e refl b
            (kept_own u d (inner_scope u inner) own) is)))
            (variable_adds env name s.first (var_kinds.Scalar d.of) number_meaning (omega arith));
      }
    where
      no_star : (t : Syntax) → OfExpressions t → is_star t ≡ false
      no_star (node form w' f' l' ps) h = expression_no_star form w' f' l' ps h.0

      fits : (t : Syntax) → OfExpressions t → (is_list (Some t) || (true && (not true))) ≡ false
      fits (node form w' f' l' ps) h = either _ _ (expression_no_list form w' f' l' ps h.0) refl

-- ---- the declaration of a pointer

space_same : (s : Space) → same_space s s ≡ true
space_same spaces.Global = refl
space_same spaces.Constant = refl
space_same spaces.Local = refl
space_same spaces.Private = refl

type_same : (t : IntType) → same_type t t ≡ true
type_same types.Bool = refl
type_same types.Char = refl
type_same types.Uchar = refl
type_same types.Short = refl
type_same types.Ushort = refl
type_same types.Int = refl
type_same types.Uint = refl
type_same types.Long = refl
type_same types.Ulong = refl

both_hold : (a b : Bool) → a ≡ true → b ≡ true → not (a && b) ≡ false
both_hold true true e h = refl
both_hold true false e h = absurd (false≢true h)
both_hold false b e h = absurd (false≢true e)

star_sound : (asked : Asked) (u : Env) (w : List ℕ) (f l : ℕ) →
    SoundTree asked u roles.Other (node forms.StarNode w f l none)
unfolding misfits
star_sound asked u w f l = (tt, (by, tt))
  where
    by : (k : Fault) → at_fault asked (looked_at u roles.Other (node forms.StarNode w f l none)) k ≡ false
    by faults.UnknownName = refl
    by _ = refl

module _ (asked : Asked) (env : Env) (role : Role) (s : Span) (w : List ℕ) (f l : ℕ) (parts : Forest) (d : Declared)
    (name : List ℕ) (e : Syntax) (typed : IsTyped asked env w f l parts d) (named : IsName name)
    (fresh : is_declared env name ≡ false) (inner : 2 ≤ length env.scopes) (c : Bool) (r : Root) (q : Reach)
    (g : Good asked (behind_typed env d) roles.Other e (kinds.Pointer (pointed_space d) d.of c r each.Element q)) where
  abbrev pub pointer_meaning : Meaning
  pointer_meaning = meanings.Pointer (pointed_space d) d.of d.constant r false (length env.variables)

  pointer_fits : (t : Syntax) → OfExpressions t →
      (is_list (Some t) || (true && not (same_space (pointed_space d) (pointed_space d) && same_type d.of d.of))) ≡
      false
  pointer_fits (node form w' f' l' ps) h = either _ _ (expression_no_list form w' f' l' ps h.0)
      (both_hold _ _ (space_same (pointed_space d)) (type_same d.of))

  pub pointer_declaration : Declares asked env role name pointer_meaning
      (declared_at s (node forms.TypeNode w f l parts) name (forest2 (star_at s) e))
  unfolding inside later
  pointer_declaration =
      let u = behind_typed env d in
      let b = neutral u e g.made in
      let word = name ++ codes " =" in
      let star = node forms.StarNode (codes "*") s.first (s.first - 1) none in
      let is = pointer_declares word name (codes "*") s.first s.first (s.first - 1) false e (set_name name named.0)
      (set_dimensions name named) (set_is_set name named.0) refl in
      let k = kinds.Pointer (pointed_space d) d.of c r each.Element q in
      let kind = var_kinds.Pointer (pointed_space d) d.of (root_of (kind_of u e)) in
      let there = meanings.Pointer (pointed_space d) d.of d.constant (root_of (kind_of u e)) false
      (length env.variables) in
      let t = declared_at s (node forms.TypeNode w f l parts) name (forest2 (star_at s) e) in
      let adds : Adds env (behind env t) name there =
      subst (λ to. Adds env to name there) (sym (declaration_behind env (codes ";") w word name s.first s.last f l
      s.first s.last (suc (s.first - 1)) parts (forest2 (star_at s) e) d kind there asked typed
      (pointer_behind_declarator u d word name (codes "*") s.first s.last s.first (s.first - 1) false e refl b is)))
      (variable_adds env name (suc (s.first - 1)) kind there (omega arith)) in record {
        sound = declaration_sound asked env role (codes ";") w s.first s.last f l parts
            (node forms.DeclaratorNode word s.first s.last (forest2 (star_at s) e)) d typed (
              (
                star_sound asked u (codes "*") s.first (s.first - 1),
                (
                  subst (λ z. SoundTree asked z roles.Other e) (sym (star_behind u (codes "*") s.first (s.first - 1)))
                      g.sound,
                  tt,
                ),
              ),
              (
                subst (NoFault asked) (sym (pointer_looked u word (codes "*") s.first s.last s.first (s.first - 1) e
                    (Some k) b g.kind))
                    (declarator_fine asked u word s.first (forest2 (star_at s) e) (None ∷ (Some k ∷ [])) d name
                    (suc (s.first - 1)) (Some false) e refl (set_name name named.0) is fresh (inner_scope u inner)
                    (pointer_fits e g.made) refl),
                tt,
              ),
            );
        adds = subst (λ z. Adds env (behind env t) name
            (meanings.Pointer (pointed_space d) d.of d.constant (root_of z) false (length env.variables))) g.kind adds;
      }
