-- What expressions of helping variables stand for, and the assignments of which they are part.
use Rattle.std.proofs.Common.{◌≡◌, ℕ, Bool, true, false, List, [], ◌∷◌, ◌++◌, length, Option, Some}
use Rattle.std.proofs.Common.{if◌then◌else◌, refl, ap, ◌∙◌}
use Rattle.std.specs.Prelude.{pos}
use Rattle.wg_num.specs.declared.types.IntType.{IntType}
use Rattle.wg_num.specs.declared.types.IntType.TheVariants as types
use Rattle.wg_num.specs.declared.types.Bin.TheVariants as bins
use Rattle.wg_num.specs.declared.types.Place.{Place}
use Rattle.wg_num.specs.Types.{same_type}
use Rattle.cl_model.specs.declared.program.Root.{Root}
use Rattle.cl_model.specs.declared.program.Space.{Space}
use Rattle.cl_model.specs.Tree as tree
use Rattle.cl_model.specs.Tree.{Expression, Apply, single, pair}
use Rattle.cl_tree.specs.declared.tree.Form.TheVariants as forms
use Rattle.cl_tree.specs.Syntax.{Syntax, node, none, more}
use Rattle.cl_meaning.specs.declared.operators.Postfix.{Postfix}
use Rattle.cl_meaning.specs.declared.operators.Postfix.TheVariants as postfixes
use Rattle.cl_meaning.specs.declared.operators.Setting.TheVariants as settings
use Rattle.cl_meaning.specs.Spelling.{name_in, setting_in, postfix_in, literal_in}
use Rattle.cl_meaning.specs.declared.kind.Each.TheVariants as each
use Rattle.cl_meaning.specs.declared.kind.Reach.{Reach}
use Rattle.cl_meaning.specs.declared.kind.Reach.TheVariants as reach
use Rattle.cl_meaning.specs.declared.kind.Kind.{Kind}
use Rattle.cl_meaning.specs.declared.kind.Kind.TheVariants as kinds
use Rattle.cl_meaning.specs.declared.kind.Meaning.{Meaning}
use Rattle.cl_meaning.specs.Environment.{Env, meaning_of, place_of}
use Rattle.cl_meaning.specs.Kinds.{kind_of_meaning, kind_step, number, on_one, postfix_kind}
use Rattle.cl_meaning.specs.Visible.{inside, later, restored, left, closed, behind, behind_parts, kind_of, kinds_of}
use Rattle.cl_meaning.specs.Typed.{What, value, target, element, variable, statement, Piece, Made}
use Rattle.cl_meaning.specs.Expressions.{name_made, read, operand, set_what, set_made, postfix_made, literal}
use Rattle.cl_meaning.specs.Expressions.{flagged_made}
use Rattle.cl_meaning.specs.Statements.{simple_statement}
use Rattle.cl_meaning.specs.Meant.{make, meant, parts_meant}
use Rattle.cl_short_vec_correct.proofs.Adds.{take_same}

pub closed_same : (env : Env) → closed env env ≡ env
closed_same env = ap (λ z. record env { scopes = z }) (take_same env.scopes env.scopes refl)

-- a tree of that kind, that stands for this, with these sites behind it
abbrev pub made_as : Option Kind → What → List Place → Made
made_as k w sites = record { piece = record { kind = k; what = w }; sites = sites }

pub same_same : (t : IntType) → same_type t t ≡ true
same_same types.Bool = refl
same_same types.Char = refl
same_same types.Uchar = refl
same_same types.Short = refl
same_same types.Ushort = refl
same_same types.Int = refl
same_same types.Uint = refl
same_same types.Long = refl
same_same types.Ulong = refl

-- a number of that type is not converted to it
pub operand_same : (t : IntType) (p : Piece) (r : Reach) → p.kind ≡ Some (kinds.Number t r) →
    operand t p ≡ read p.what
operand_same t p r h =
    ap (λ k. operand t (record { kind = k; what = p.what })) h ∙
    ap (λ b. if b then read p.what else Apply (tree.Convert t) (single (read p.what))) (same_same t)

-- ---- leaves

pub variable_behind : (env : Env) (w : List ℕ) (f l : ℕ) → behind env (node forms.VariableNode w f l none) ≡ env
unfolding behind left restored inside
variable_behind env w f l = closed_same env

pub number_behind : (env : Env) (w : List ℕ) (f l : ℕ) → behind env (node forms.NumberNode w f l none) ≡ env
unfolding behind left restored inside
number_behind env w f l = closed_same env

pub star_behind : (env : Env) (w : List ℕ) (f l : ℕ) → behind env (node forms.StarNode w f l none) ≡ env
unfolding behind left restored inside
star_behind env w f l = closed_same env

-- a name that is visible
pub variable_meant : (env : Env) (sites : List Place) (w : List ℕ) (f l : ℕ) (m : Meaning) → env.flags ≡ false →
    meaning_of env (name_in w) ≡ Some m →
    meant env sites (node forms.VariableNode w f l none) ≡
    made_as (kind_of_meaning m) (name_made (place_of env f) sites (Some m)).what
    (name_made (place_of env f) sites (Some m)).sites
unfolding meant kind_of kind_step make restored inside
variable_meant env sites w f l m h k =
    ap (λ e. made_as (kind_step e forms.VariableNode w none [])
    (flagged_made e (place_of e f) sites (name_in w)).what (flagged_made e (place_of e f) sites (name_in w)).sites)
    (closed_same env) ∙ rw h (rw k (refl))

pub number_meant : (env : Env) (sites : List Place) (w : List ℕ) (f l : ℕ) (t : IntType) (v : ℕ) →
    literal_in w ≡ Some (t, v) →
    meant env sites (node forms.NumberNode w f l none) ≡ made_as (Some (number t)) (value (literal (pos v) t)) sites
unfolding meant kind_of kind_step make
number_meant env sites w f l t v h = rw h (refl)

-- ---- an element of a pointer

pub index_behind : (env : Env) (w : List ℕ) (f l : ℕ) (p i : Syntax) → behind env p ≡ env → behind env i ≡ env →
    behind env (node forms.PostfixNode w f l (more p (more i none))) ≡ env
unfolding behind behind_parts left restored inside later
index_behind env w f l p i hp hi =
    ap (λ e. closed env (behind e i)) hp ∙ (ap (closed env) hi ∙ closed_same env)

-- where the second operand sees `e`, and `v` is visible behind both
abbrev index_by : (env e v : Env) → List Place → ℕ → Syntax → Syntax → Option Postfix → Made
index_by env e v sites f p i z =
    made_as (on_one z (λ q. postfix_kind q (kind_of env p ∷ (kind_of e i ∷ []))))
    (postfix_made (place_of v f) (meant e (meant env sites p).sites i).sites z
    ((meant env sites p).piece ∷ ((meant e (meant env sites p).sites i).piece ∷ []))).what
    (postfix_made (place_of v f) (meant e (meant env sites p).sites i).sites z
    ((meant env sites p).piece ∷ ((meant e (meant env sites p).sites i).piece ∷ []))).sites

pub meant_kind : (env : Env) (sites : List Place) (t : Syntax) → kind_of env t ≡ (meant env sites t).piece.kind
unfolding meant
meant_kind env sites (node form w f l parts) = refl

-- an element, from what its pointer and its index are made into
abbrev pub indexed : Env → ℕ → (pointer index : Made) → Made
indexed env f a b = made_as (postfix_kind postfixes.Index (a.piece.kind ∷ (b.piece.kind ∷ [])))
    (postfix_made (place_of env f) b.sites (Some postfixes.Index) (a.piece ∷ (b.piece ∷ []))).what
    (postfix_made (place_of env f) b.sites (Some postfixes.Index) (a.piece ∷ (b.piece ∷ []))).sites

pub index_meant : (env : Env) (sites : List Place) (w : List ℕ) (f l : ℕ) (p i : Syntax) → behind env p ≡ env →
    behind env i ≡ env → postfix_in w ≡ Some postfixes.Index →
    meant env sites (node forms.PostfixNode w f l (more p (more i none))) ≡
    indexed env f (meant env sites p) (meant env (meant env sites p).sites i)
unfolding meant parts_meant kind_of kinds_of kind_step make behind_parts restored inside later
index_meant env sites w f l p i hp hi hw =
    ap (index_by env (behind env p) (closed env (behind (behind env p) i)) sites f p i) hw ∙
    (ap (λ e. index_by env e (closed env (behind e i)) sites f p i (Some postfixes.Index)) hp ∙
    (ap (λ e. index_by env env e sites f p i (Some postfixes.Index)) (ap (closed env) hi ∙ closed_same env) ∙
    (ap (λ k. record (index_by env env env sites f p i (Some postfixes.Index)) {
      piece = record {
        kind = postfix_kind postfixes.Index (k ∷ (kind_of env i ∷ []));
        what = (indexed env f
            (meant env sites p) (meant env (meant env sites p).sites i)).piece.what;
      };
    }) (meant_kind env sites p) ∙
    ap (λ k. record (index_by env env env sites f p i (Some postfixes.Index)) {
      piece = record {
        kind = postfix_kind postfixes.Index ((meant env sites p).piece.kind ∷ (k ∷ []));
        what = (indexed env f (meant env sites p) (meant env (meant env sites p).sites i)).piece.what;
      };
    }) (meant_kind env (meant env sites p).sites i))))

-- the element at a number behind what a pointer variable points to
abbrev pub index_of : ℕ → ℕ → Expression
index_of y c = Apply (tree.Binary bins.Add types.Long) (pair (Apply (tree.Variable y) tree.none)
    (Apply (tree.Literal (pos c) types.Long) tree.none))

pub element_meant : (env : Env) (sites : List Place) (f l : ℕ) (p i : Syntax) (w : List ℕ) (space : Space)
    (of : IntType) (constant fixed : Bool) (r : Root) (y c : ℕ) → behind env p ≡ env → behind env i ≡ env →
    postfix_in w ≡ Some postfixes.Index →
    meant env sites p ≡ made_as (Some (kinds.Pointer space of constant r each.Element (reach.Variable fixed)))
    (target (variable y)) sites →
    meant env sites i ≡ made_as (Some (number types.Long)) (value (literal (pos c) types.Long)) sites →
    meant env sites (node forms.PostfixNode w f l (more p (more i none))) ≡
    made_as (Some (kinds.Number of (reach.Element space constant r)))
    (target (element (length sites) of r (index_of y c))) (sites ++ place_of env f ∷ [])
element_meant env sites f l p i w space of constant fixed r y c hp hi hw ep ei =
    index_meant env sites w f l p i hp hi hw ∙
    (ap (λ a. indexed env f a (meant env a.sites i)) ep ∙
    ap (λ b. indexed env f (made_as (Some (kinds.Pointer space of constant r each.Element (reach.Variable fixed)))
    (target (variable y)) sites) b) ei)

-- ---- assignments

pub assign_behind : (env : Env) (w : List ℕ) (f l : ℕ) (t v : Syntax) → behind env t ≡ env → behind env v ≡ env →
    behind env (node forms.AssignNode w f l (more t (more v none))) ≡ env
unfolding behind behind_parts left restored inside later
assign_behind env w f l t v ht hv =
    ap (λ e. closed env (behind e v)) ht ∙ (ap (closed env) hv ∙ closed_same env)

pub assign_meant : (env : Env) (sites : List Place) (w : List ℕ) (f l : ℕ) (t v : Syntax) → behind env t ≡ env →
    setting_in w ≡ Some settings.Plain →
    (meant env sites (node forms.AssignNode w f l (more t (more v none)))).piece.what ≡
    set_what settings.Plain (meant env sites t).piece (meant env (meant env sites t).sites v).piece
    (meant env sites t).piece.kind
unfolding meant parts_meant make behind_parts inside later
assign_meant env sites w f l t v ht hw =
    ap (λ z. (set_made (meant (behind env t) (meant env sites t).sites v).sites z
    ((meant env sites t).piece ∷ ((meant (behind env t) (meant env sites t).sites v).piece ∷ []))).what) hw ∙
    ap (λ e. set_what settings.Plain (meant env sites t).piece (meant e (meant env sites t).sites v).piece
    (meant env sites t).piece.kind) ht

pub simple_behind : (env : Env) (w : List ℕ) (f l : ℕ) (e : Syntax) → behind env e ≡ env →
    behind env (node forms.SimpleNode w f l (more e none)) ≡ env
unfolding behind behind_parts left restored inside later
simple_behind env w f l e h = ap (closed env) h ∙ closed_same env

pub simple_meant : (env : Env) (sites : List Place) (w : List ℕ) (f l : ℕ) (e : Syntax) (x : Expression) →
    (meant env sites e).piece.what ≡ value x →
    (meant env sites (node forms.SimpleNode w f l (more e none))).piece.what ≡ statement (tree.Do x)
unfolding meant parts_meant make inside
simple_meant env sites w f l e x h =
    ap (λ z. statement (simple_statement (record { kind = (meant env sites e).piece.kind; what = z } ∷ []))) h
