-- What the declarators of a declaration do, and the declaration.
use Rattle.std.proofs.Common.{◌≡◌, ℕ, suc, List, [], ◌∷◌, length, map, Option, None, Some, Bool, true, false, not}
use Rattle.std.proofs.Common.{if◌then◌else◌, refl, ap, sym, ◌∙◌, subst, inl, inr, ◌⊎◌, arith}
use Rattle.std.proofs.lemmas.Bool.{false≢true}
use Rattle.std.proofs.lemmas.Option.{none-some, same_Some}
use Rattle.wg_num.specs.declared.types.IntType.{IntType}
use Rattle.wg_num.specs.declared.types.Place.{Place}
use Rattle.cl_model.specs.Tree.{Function, Program, Statements}
use Rattle.cl_model.specs.Valid.{Scope, NamesAmong, AllHaveType, number_of_values}
use Rattle.cl_tree.specs.declared.tree.Form.TheVariants as forms
use Rattle.cl_tree.specs.Syntax.{Syntax, node, Forest, none, more, last_of}
use Rattle.cl_meaning.specs.Spelling.{is_set, declared_in}
use Rattle.cl_meaning.specs.declared.types.Declared.{Declared}
use Rattle.cl_meaning.specs.declared.fault.Fault.{Fault}
use Rattle.cl_meaning.specs.declared.fault.Fault.TheVariants as faults
use Rattle.cl_meaning.specs.declared.kind.Kind.{Kind}
use Rattle.cl_meaning.specs.declared.kind.Role.{Role}
use Rattle.cl_meaning.specs.declared.kind.Role.TheVariants as roles
use Rattle.cl_meaning.specs.Environment.{Env, Variable, Array, place_of}
use Rattle.cl_meaning.specs.Kinds.{is_number, all_numbers, all_known, list_kind, list_kind_of, on_one, kind_step}
use Rattle.cl_meaning.specs.Declarations.{Declarator, declarator_in, is_list, is_star, behind_star, initialisers}
use Rattle.cl_meaning.specs.Declarations.{listed, last_one, last_kind, with_declarator}
use Rattle.cl_meaning.specs.Visible.{Before, role_of, inside, later, restored, closed, behind, behind_parts, kind_of}
use Rattle.cl_meaning.specs.Visible.{kinds_of}
use Rattle.cl_meaning.specs.Faults.{Asked, Looked, at_fault, misfits, tested_misfits, given, declarator_misfits}
use Rattle.wg_num.specs.declared.types.IntType.TheVariants as types
use Rattle.cl_meaning.specs.declared.kind.Reach.TheVariants as reach
use Rattle.cl_meaning.specs.declared.kind.Kind.TheVariants as kinds
use Rattle.cl_meaning.specs.Statements as statements
use Rattle.cl_meaning.specs.Typed.{What, values, Piece, Built}
use Rattle.cl_meaning.specs.Expressions.{operand, expressions}
use Rattle.cl_meaning.specs.Statements.{initial, last_piece, lines_of, all_lines, declarator_made}
use Rattle.cl_meaning.specs.Meant.{MadeParts, with_piece, meant, parts_meant, make}
use Rattle.cl_check_sound.specs.Shape.{IsExpression, AreExpressions, IsList, AreLengths, IsDeclarator, AreDeclarators}
use Rattle.cl_check_sound.specs.Shape.{IsDeclaration}
use Rattle.cl_check_sound.specs.Sound.{SoundTree, SoundParts}
use Rattle.cl_check_sound.proofs.Assigning.{both_true}
use Rattle.cl_check_sound.proofs.Cases.{neither_first}
use Rattle.cl_check_sound.proofs.Plain.{kinds_here, parts_here, SoundHere}
use Rattle.cl_check_sound.proofs.Expressing.{kind_meant, kinds_here_are}
use Rattle.cl_check_sound.proofs.Calls.{number_parts}
use Rattle.cl_check_sound.proofs.Calls as calls
use Rattle.cl_check_sound.proofs.Expressions.{fits_expression, fits_arguments, arguments_known}
use Rattle.cl_check_sound.proofs.Typed.{type_declares}
use Rattle.cl_check_sound.proofs.Grown.{Extends, extends_then, is_deep, deep_outer, outer_whole, Grown}
use Rattle.cl_check_sound.proofs.Growth.{expression_leaves, list_leaves, star_leaves, declarator_leaves}
use Rattle.cl_check_sound.proofs.Growth.{declarator_visible, one_declarator_grows, declarators_grow, next_declarator}
use Rattle.cl_check_sound.proofs.Parts.{typed_env, declare_behind, declare_sound, declare_built}
use Rattle.cl_check_sound.proofs.Naming.{Scoped, expression_scoped, operand_scoped}
use Rattle.cl_check_sound.proofs.Facing.{Finals, At, at_later}
use Rattle.cl_check_sound.proofs.Lining.{Line, no_line, line_then}
use Rattle.cl_check_sound.proofs.Declaring.{ValueOk, ListOk, InitOk}
use Rattle.cl_check_sound.proofs.Declared.{declarator_line}

-- ---- the parts of a declarator

-- each leaves what was visible before it
abbrev pub Leaves : Forest → Type 0
Leaves none = Unit {0}
Leaves (more p ps) = ((env : Env) → behind env p ≡ env) × Leaves ps

pub expressions_neutral : (parts : Forest) → AreExpressions parts → Leaves parts
expressions_neutral none h = tt
expressions_neutral (more p ps) h = ((λ env. expression_leaves env p h.0), expressions_neutral ps h.1)

pub lengths_neutral : (parts : Forest) → AreLengths parts → Leaves parts
lengths_neutral none h = tt
lengths_neutral (more p none) (inl h) = ((λ env. expression_leaves env p h), tt)
lengths_neutral (more p none) (inr h) = ((λ env. list_leaves env p h), tt)
lengths_neutral (more p (more q qs)) h = ((λ env. expression_leaves env p h.0), lengths_neutral (more q qs) h.1)

pub declarator_neutral : (w : List ℕ) (f l : ℕ) (parts : Forest) →
    IsDeclarator (node forms.DeclaratorNode w f l parts) → Leaves parts
declarator_neutral w f l none h = tt
declarator_neutral w f l (more (node forms.StarNode w' f' l' none) ps) h =
    ((λ env. star_leaves env w' f' l'), lengths_neutral ps h)
declarator_neutral w f l (more (node form w' f' l' qs) ps) h = lengths_neutral (more (node form w' f' l' qs) ps) h

pub meant_here : (env : Env) (front : Bool) (sites : List Place) (parts : Forest) → Leaves parts →
    parts_meant env forms.DeclaratorNode front sites parts ≡ parts_here env sites parts
unfolding parts_meant later
meant_here env front sites none h = refl
meant_here env front sites (more p ps) h =
    ap (λ z. with_piece (meant env sites p).piece (parts_meant z forms.DeclaratorNode false (meant env sites p).sites
    ps)) (h.0 env)
    ∙ ap (λ z. with_piece (meant env sites p).piece z) (meant_here env false (meant env sites p).sites ps h.1)

kinds_are_here : (env : Env) (front : Bool) (parts : Forest) → Leaves parts →
    kinds_of env forms.DeclaratorNode front parts ≡ kinds_here env parts
unfolding kinds_of later
kinds_are_here env front none h = refl
kinds_are_here env front (more p ps) h =
    ap (λ z. kind_of env p ∷ kinds_of z forms.DeclaratorNode false ps) (h.0 env) ∙
    ap (λ z. kind_of env p ∷ z) (kinds_are_here env false ps h.1)

sound_here : (asked : Asked) (env : Env) (b : Before) (parts : Forest) → Leaves parts →
    SoundParts asked env forms.DeclaratorNode b parts → SoundHere asked env parts
unfolding later
sound_here asked env b none h s = tt
sound_here asked env b (more p ps) h s = (
  s.0,
  sound_here asked env (Some (last_of p)) ps h.1
      (subst (λ z. SoundParts asked z forms.DeclaratorNode (Some (last_of p)) ps) (h.0 env) s.1),
)

-- the same of a list
pub list_meant_here : (env : Env) (front : Bool) (sites : List Place) (parts : Forest) → Leaves parts →
    parts_meant env forms.ListNode front sites parts ≡ parts_here env sites parts
unfolding parts_meant later
list_meant_here env front sites none h = refl
list_meant_here env front sites (more p ps) h =
    ap (λ z. with_piece (meant env sites p).piece (parts_meant z forms.ListNode false (meant env sites p).sites ps))
    (h.0 env)
    ∙ ap (λ z. with_piece (meant env sites p).piece z) (list_meant_here env false (meant env sites p).sites ps h.1)

list_kinds_here : (env : Env) (front : Bool) (parts : Forest) → Leaves parts →
    kinds_of env forms.ListNode front parts ≡ kinds_here env parts
unfolding kinds_of later
list_kinds_here env front none h = refl
list_kinds_here env front (more p ps) h = ap (λ z. kind_of env p ∷ kinds_of z forms.ListNode false ps) (h.0 env) ∙
    ap (λ z. kind_of env p ∷ z) (list_kinds_here env false ps h.1)

list_sound_here : (asked : Asked) (env : Env) (b : Before) (parts : Forest) → Leaves parts →
    SoundParts asked env forms.ListNode b parts → SoundHere asked env parts
unfolding later
list_sound_here asked env b none h s = tt
list_sound_here asked env b (more p ps) h s = (
  s.0,
  list_sound_here asked env (Some (last_of p)) ps h.1
      (subst (λ z. SoundParts asked z forms.ListNode (Some (last_of p)) ps) (h.0 env) s.1),
)

leaves_parts : (form : _) (env : Env) (front : Bool) (parts : Forest) → Leaves parts →
    ((e : Env) (b : Bool) (p : Syntax) (k : Option Kind) → later e form b p k ≡ e) →
    behind_parts env form front parts ≡ env
unfolding behind_parts
leaves_parts form env front none h g = refl
leaves_parts form env front (more p ps) h g =
    ap (λ z. behind_parts z form false ps) (g (behind env p) front p (kind_of env p) ∙ h.0 env) ∙
    leaves_parts form env false ps h.1 g

list_inner : (env : Env) (parts : Forest) → Leaves parts → behind_parts env forms.ListNode true parts ≡ env
unfolding later
list_inner env parts h = leaves_parts forms.ListNode env true parts h (λ e b p k. refl)

-- ---- lists

list_what : (env : Env) (sites : List Place) (d : Declared) (w : List ℕ) (f l : ℕ) (parts : Forest) → Leaves parts →
    env.declared ≡ Some d → (meant env sites (node forms.ListNode w f l parts)).piece.what ≡
    values (map (operand d.of) (parts_here env sites parts).pieces)
unfolding meant make inside restored
list_what env sites d w f l parts h e =
    ap (λ (z : MadeParts). (list_made_of env.declared z)) (list_meant_here env true sites parts h) ∙
    ap (λ z. list_made_of z (parts_here env sites parts)) e
  where
    list_made_of : Option Declared → MadeParts → What
    list_made_of o ms = (statements.list_made ms.sites o ms.pieces).what

list_kind_is : (env : Env) (w : List ℕ) (f l : ℕ) (parts : Forest) → Leaves parts →
    kind_of env (node forms.ListNode w f l parts) ≡ list_kind (kinds_here env parts)
unfolding kind_of kind_step inside
list_kind_is env w f l parts h = ap list_kind (list_kinds_here env true parts h)

list_parts_sound : (asked : Asked) (env : Env) (role : Role) (w : List ℕ) (f l : ℕ) (parts : Forest) → Leaves parts →
    SoundTree asked env role (node forms.ListNode w f l parts) → SoundHere asked env parts
unfolding inside
list_parts_sound asked env role w f l parts h s = list_sound_here asked env None parts h s.0

all_have : (P : Program) (g : Function) (t : IntType) (ps : List Piece) (ks : List Kind) → calls.AllFit P g ps ks →
    all_numbers ks ≡ true → AllHaveType P g (expressions (map (operand t) ps)) t
all_have P g t [] [] h a = tt
all_have P g t (p ∷ ps) (k ∷ ks) h a = let b =
    both_true (is_number k) (all_numbers ks) a in (number_parts P g p k t b.0 h.0 h.1, all_have P g t ps ks h.2 b.1)
all_have P g t [] (k ∷ ks) h a = absurd h
all_have P g t (p ∷ ps) [] h a = absurd h

all_named : (scope : Scope) (env : Env) (sites : List Place) (t : IntType) (parts : Forest) → AreExpressions parts →
    Scoped scope env → NamesAmong scope (expressions (map (operand t) (parts_here env sites parts).pieces))
all_named scope env sites t none h s = tt
all_named scope env sites t (more p ps) h s = (
  operand_scoped scope t (meant env sites p).piece (expression_scoped scope env sites p h.0 s),
  all_named scope env (meant env sites p).sites t ps h.1 s,
)

all_counted : (env : Env) (sites : List Place) (t : IntType) (parts : Forest) →
    number_of_values (expressions (map (operand t) (parts_here env sites parts).pieces)) ≡ length (listed parts)
all_counted env sites t none = refl
all_counted env sites t (more p ps) = ap suc (all_counted env (meant env sites p).sites t ps)

numbers_all : (o : Option (List Kind)) (ks : List Kind) → o ≡ Some ks →
    given (on_one o (λ as'. Some (list_kind_of as'))) (λ a. not (is_number a)) ≡ false → all_numbers ks ≡ true
numbers_all o ks e h = by (all_numbers ks)
    (subst (λ z. given (on_one z (λ as'. Some (list_kind_of as'))) (λ a. not (is_number a)) ≡ false) e h)
  where
    by : (b : Bool) → not (is_number (if b then kinds.Number types.Int reach.Value else kinds.Nothing)) ≡ false →
        b ≡ true
    by true h = refl
    by false h = absurd (false≢true (sym h))

list_ok : (P : Program) (g : Function) (asked : Asked) (scope : Scope) (env : Env) (sites : List Place) (role : Role)
    (d : Declared) (s : Syntax) → IsList s → SoundTree asked env role s → env.declared ≡ Some d →
    At P g asked.missing scope env →
    ListOk P g scope d.of (length (initialisers (Some s))) (meant env sites s).piece
list_ok P g asked scope env sites role d (node forms.ListNode w f l parts) h s e a =
    let n = expressions_neutral parts h in
    let x = fits_arguments P g asked env sites parts h (list_parts_sound asked env role w f l parts n s) a.fits in
    record {
      es = map (operand d.of) (parts_here env sites parts).pieces;
      is = list_what env sites d w f l parts n e;
      typed = λ m. all_have P g d.of (parts_here env sites parts).pieces x.kinds' x.fit
          (numbers_all (all_known (kinds_here env parts)) x.kinds' (ap all_known (kinds_here_are env sites parts) ∙
          arguments_known P g (parts_here env sites parts).pieces x.kinds' x.fit)
          (subst (λ z. given z (λ a. not (is_number a)) ≡ false)
          (kind_meant env sites (node forms.ListNode w f l parts) ∙ list_kind_is env w f l parts n) m));
      names = all_named scope env sites d.of parts h a.seen;
      count = all_counted env sites d.of parts;
    }
list_ok P g asked scope env sites role d s h k e a = absurd h

-- ---- the initialiser

pub record LastPart (asked : Asked) (env : Env) (sites : List Place) (parts : Forest) (t : Syntax) : Type 0 where
  pub sites' : List Place
  pub last : last_piece (parts_here env sites parts).pieces ≡ Some (meant env sites' t).piece
  pub kind : last_kind (kinds_here env parts) ≡ (meant env sites' t).piece.kind
  pub is : IsExpression t ⊎ IsList t
  pub sound : SoundTree asked env roles.Other t

last_part : (asked : Asked) (env : Env) (sites : List Place) (parts : Forest) (t : Syntax) → AreLengths parts →
    SoundHere asked env parts → last_one (listed parts) ≡ Some t → LastPart asked env sites parts t
last_part asked env sites none t h s e = absurd (none-some t e)
last_part asked env sites (more p none) t h s e =
    subst (λ z. LastPart asked env sites (more p none) z) (same_Some _ _ e) (record {
      sites' = sites;
      last = refl;
      kind = sym (kind_meant env sites p);
      is = h;
      sound = s.0;
    })
last_part asked env sites (more p (more q qs)) t h s e =
    let x = last_part asked env (meant env sites p).sites (more q qs) t h.1 s.1 e in
    record { sites' = x.sites'; last = x.last; kind = x.kind; is = x.is; sound = x.sound }

not_star : (t : Syntax) → IsExpression t ⊎ IsList t → is_star t ≡ false
not_star (node forms.StarNode w f l parts) (inl h) = absurd h
not_star (node forms.StarNode w f l parts) (inr h) = absurd h
not_star t h = refl

first_of_lengths : (p : Syntax) (ps : Forest) → AreLengths (more p ps) → IsExpression p ⊎ IsList p
first_of_lengths p none h = h
first_of_lengths p (more q qs) h = inl h.0

plain_front : (p : Syntax) (ps : Forest) → AreLengths (more p ps) → behind_star (more p ps) ≡ more p ps
plain_front p ps h = ap (λ b. if b then ps else more p ps) (not_star p (first_of_lengths p ps h))

declarator_last : (asked : Asked) (env : Env) (sites : List Place) (w : List ℕ) (f l : ℕ) (parts : Forest)
    (t : Syntax) → IsDeclarator (node forms.DeclaratorNode w f l parts) → SoundHere asked env parts →
    last_one (listed (behind_star parts)) ≡ Some t → LastPart asked env sites parts t
declarator_last asked env sites w f l none t h s e = absurd (none-some t e)
declarator_last asked env sites w f l (more (node forms.StarNode w' f' l' none) none) t h s e = absurd (none-some t e)
declarator_last asked env sites w f l (more (node forms.StarNode w' f' l' none) (more q qs)) t h s e =
    let x = last_part asked env (meant env sites (node forms.StarNode w' f' l' none)).sites (more q qs) t h s.1 e in
    record { sites' = x.sites'; last = x.last; kind = x.kind; is = x.is; sound = x.sound }
declarator_last asked env sites w f l (more (node form w' f' l' qs) ps) t h s e =
    last_part asked env sites (more (node form w' f' l' qs) ps) t h s
    (subst (λ z. last_one (listed z) ≡ Some t) (plain_front (node form w' f' l' qs) ps h) e)

is_list_of : (s : Syntax) → IsList s → is_list (Some s) ≡ true
is_list_of (node forms.ListNode w f l parts) h = refl
is_list_of s h = absurd h

no_list_of : (s : Syntax) → IsExpression s → is_list (Some s) ≡ false
no_list_of (node forms.ListNode w f l parts) h = absurd h
no_list_of s h = refl

init_value : (P : Program) (g : Function) (asked : Asked) (scope : Scope) (env : Env) (sites : List Place)
    (s : Syntax) → IsExpression s ⊎ IsList s → SoundTree asked env roles.Other s → At P g asked.missing scope env →
    is_list (Some s) ≡ false → ValueOk P g scope (meant env sites s).piece
init_value P g asked scope env sites s (inl h) x a n =
    record {
      fits = fits_expression P g asked env roles.Other sites s h x a.fits;
      names = expression_scoped scope env sites s h a.seen;
    }
init_value P g asked scope env sites s (inr h) x a n = absurd (false≢true (sym n ∙ is_list_of s h))

init_list : (P : Program) (g : Function) (asked : Asked) (scope : Scope) (env : Env) (sites : List Place)
    (d : Declared) (s : Syntax) → IsExpression s ⊎ IsList s → SoundTree asked env roles.Other s →
    env.declared ≡ Some d → At P g asked.missing scope env → is_list (Some s) ≡ true →
    ListOk P g scope d.of (length (initialisers (Some s))) (meant env sites s).piece
init_list P g asked scope env sites d s (inl h) x e a n = absurd (false≢true (sym (no_list_of s h) ∙ n))
init_list P g asked scope env sites d s (inr h) x e a n = list_ok P g asked scope env sites roles.Other d s h x e a

init_ok : (P : Program) (g : Function) (asked : Asked) (scope : Scope) (env : Env) (sites : List Place) (d : Declared)
    (parts : Forest) (x : Declarator) (o : Option Syntax) →
    ((s : Syntax) → o ≡ Some s → LastPart asked env sites parts s) → env.declared ≡ Some d →
    At P g asked.missing scope env →
    InitOk P g scope d.of o (initial (record x { init = o }) (parts_here env sites parts).pieces)
    (last_kind (kinds_here env parts))
init_ok P g asked scope env sites d parts x None h e a = tt
init_ok P g asked scope env sites d parts x (Some s) h e a =
    let q = h s refl in (
      (meant env q.sites' s).piece,
      q.last,
      q.kind,
      (λ n. init_value P g asked scope env q.sites' s q.is q.sound a n),
      (λ n. init_list P g asked scope env q.sites' d s q.is q.sound e a n),
    )

pub init_part : (asked : Asked) (env : Env) (sites : List Place) (w : List ℕ) (f l : ℕ) (parts : Forest) →
    IsDeclarator (node forms.DeclaratorNode w f l parts) → SoundHere asked env parts → (b : Bool) (s : Syntax) →
    (if b then last_one (listed (behind_star parts)) else None) ≡ Some s → LastPart asked env sites parts s
init_part asked env sites w f l parts h x true s e = declarator_last asked env sites w f l parts s h x e
init_part asked env sites w f l parts h x false s e = absurd (none-some s e)

-- ---- one declarator

pub declarator_sound : (asked : Asked) (env : Env) (role : Role) (w : List ℕ) (f l : ℕ) (parts : Forest) →
    IsDeclarator (node forms.DeclaratorNode w f l parts) →
    SoundTree asked env role (node forms.DeclaratorNode w f l parts) → (k : Fault) →
    at_fault asked (record {
      env = env;
      role = role;
      form = forms.DeclaratorNode;
      word = w;
      first = f;
      parts = parts;
      kinds' = kinds_here env parts;
    }) k ≡ false
unfolding inside
declarator_sound asked env role w f l parts h s k =
    ap (λ z. at_fault asked z k) (sym (ap (λ z. record {
      env = z;
      role = role;
      form = forms.DeclaratorNode;
      word = w;
      first = f;
      parts = parts;
      kinds' = kinds_of env forms.DeclaratorNode true parts;
    })
    (declarator_visible env w f l parts h)
    ∙ ap (λ z. record {
      env = env;
      role = role;
      form = forms.DeclaratorNode;
      word = w;
      first = f;
      parts = parts;
      kinds' = z;
    }) (kinds_are_here env true parts (declarator_neutral w f l parts h)))) ∙ s.1.0 k

pub declarator_fits : (asked : Asked) (env : Env) (role : Role) (d : Declared) (w : List ℕ) (f : ℕ) (parts : Forest) →
    env.declared ≡ Some d →
    at_fault asked (record {
      env = env;
      role = role;
      form = forms.DeclaratorNode;
      word = w;
      first = f;
      parts = parts;
      kinds' = kinds_here env parts;
    }) faults.OperandTypes ≡ false →
    declarator_misfits (Some d) (declarator_in w f parts) (last_kind (kinds_here env parts)) ≡ false
unfolding misfits
declarator_fits asked env role d w f parts e h =
    let n : Looked = record {
      env = env;
      role = role;
      form = forms.DeclaratorNode;
      word = w;
      first = f;
      parts = parts;
      kinds' = kinds_here env parts;
    } in
    subst (λ z. declarator_misfits z (declarator_in w f parts) (last_kind (kinds_here env parts)) ≡ false) e
    (neither_first (declarator_misfits env.declared (declarator_in w f parts) (last_kind (kinds_here env parts)))
    (tested_misfits n) h)

declarator_parts_sound : (asked : Asked) (env : Env) (role : Role) (w : List ℕ) (f l : ℕ) (parts : Forest) →
    IsDeclarator (node forms.DeclaratorNode w f l parts) →
    SoundTree asked env role (node forms.DeclaratorNode w f l parts) → SoundHere asked env parts
unfolding inside
declarator_parts_sound asked env role w f l parts h s =
    sound_here asked env None parts (declarator_neutral w f l parts h) s.0

declarator_what : (env : Env) (sites : List Place) (d : Declared) (w : List ℕ) (f l : ℕ) (parts : Forest) →
    IsDeclarator (node forms.DeclaratorNode w f l parts) → env.declared ≡ Some d →
    (meant env sites (node forms.DeclaratorNode w f l parts)).piece.what ≡
    (declarator_made env (place_of env f) (parts_here env sites parts).sites (Some d) (declarator_in w f parts)
    (parts_here env sites parts).pieces).what
unfolding meant make inside
declarator_what env sites d w f l parts h e =
    ap (λ (z : Env). (declarator_made z (place_of z f) (parts_meant env forms.DeclaratorNode true sites parts).sites
    z.declared (declarator_in w f parts) (parts_meant env forms.DeclaratorNode true sites parts).pieces).what)
    (declarator_visible env w f l parts h)
    ∙
    (ap (λ (z : MadeParts). (declarator_made env (place_of env f) z.sites env.declared (declarator_in w f parts)
    z.pieces).what) (meant_here env true sites parts (declarator_neutral w f l parts h))
    ∙ ap (λ z. (declarator_made env (place_of env f) (parts_here env sites parts).sites z (declarator_in w f parts)
    (parts_here env sites parts).pieces).what) e)

pub declarator_env : (env : Env) (d : Declared) (w : List ℕ) (f l : ℕ) (parts : Forest) →
    IsDeclarator (node forms.DeclaratorNode w f l parts) → env.declared ≡ Some d →
    behind env (node forms.DeclaratorNode w f l parts) ≡ with_declarator env (Some d) (declarator_in w f parts)
    (last_kind (kinds_here env parts))
declarator_env env d w f l parts h e =
    declarator_leaves env w f l parts h
    ∙ (ap (λ z. with_declarator env env.declared (declarator_in w f parts) (last_kind z))
    (kinds_are_here env true parts (declarator_neutral w f l parts h))
    ∙ ap (λ z. with_declarator env z (declarator_in w f parts) (last_kind (kinds_here env parts))) e)

pub one_declarator : (P : Program) (g : Function) (asked : Asked) (vars : List Variable) (arrs : List Array)
    (scope : Scope) (env : Env) (sites : List Place) (role : Role) (d : Declared) (t : Syntax) → IsDeclarator t →
    SoundTree asked env role t → env.declared ≡ Some d → is_deep env.scopes ≡ true →
    At P g asked.missing scope env → Finals g vars arrs → Extends (behind env t).variables vars →
    Extends (behind env t).arrays arrs →
    Line P g asked.missing scope env (lines_of (meant env sites t).piece.what) (behind env t)
one_declarator P g asked vars arrs scope env sites role d (node forms.DeclaratorNode w f l parts) h s e dp a n ev ea =
    let t = node forms.DeclaratorNode w f l parts in
    let x = declarator_in w f parts in
    let k = last_kind (kinds_here env parts) in
    let be = declarator_env env d w f l parts h e in
    let z = declarator_sound asked env role w f l parts h s in
    let sh = declarator_parts_sound asked env role w f l parts h s in
    let i = init_ok P g asked scope env sites d parts x x.init (λ q eq. init_part asked env sites w f l parts h sh
    (is_set w) q eq) e a in
    subst (λ b. Line P g asked.missing scope env (lines_of (meant env sites t).piece.what) b) (sym be)
    (subst (λ b. Line P g asked.missing scope env (lines_of b) (with_declarator env (Some d) x k))
    (sym (declarator_what env sites d w f l parts h e))
    (declarator_line P g asked.missing vars arrs scope env d x (parts_here env sites parts).pieces k (place_of env f)
    (parts_here env sites parts).sites dp a n (subst (λ (b : Env). Extends b.variables vars) be ev)
    (subst (λ (b : Env). Extends b.arrays arrs) be ea) i
    (declarator_fits asked env role d w f parts e (z faults.OperandTypes)) (z faults.PointerRoot)
    (z faults.ArrayLength)))
one_declarator P g asked vars arrs scope env sites role d t h s e dp a n ev ea = absurd h

-- ---- all of them

pub declare_meant : (env : Env) (front : Bool) (sites : List Place) (p : Syntax) (ps : Forest) → IsDeclarator p →
    parts_meant env forms.DeclareNode front sites (more p ps) ≡ with_piece (meant env sites p).piece
    (parts_meant (behind env p) forms.DeclareNode false (meant env sites p).sites ps)
unfolding parts_meant
declare_meant env front sites p ps h =
    ap (λ z. with_piece (meant env sites p).piece (parts_meant z forms.DeclareNode false (meant env sites p).sites
    ps)) (next_declarator (behind env p) front p (kind_of env p) h)

pub declare_leaves : (env : Env) (front : Bool) (p : Syntax) (ps : Forest) → IsDeclarator p →
    behind_parts env forms.DeclareNode front (more p ps) ≡ behind_parts (behind env p) forms.DeclareNode false ps
unfolding behind_parts
declare_leaves env front p ps h =
    ap (λ z. behind_parts z forms.DeclareNode false ps) (next_declarator (behind env p) front p (kind_of env p) h)

no_declarator : (env : Env) (front : Bool) (sites : List Place) →
    (behind_parts env forms.DeclareNode front none ≡ env) ×
    ((parts_meant env forms.DeclareNode front sites none).pieces ≡ [])
unfolding behind_parts parts_meant
no_declarator env front sites = (refl, refl)

pub declarators_line : (P : Program) (g : Function) (asked : Asked) (vars : List Variable) (arrs : List Array)
    (scope : Scope) (env : Env) (sites : List Place) (b : ℕ) (d : Declared) (parts : Forest) → AreDeclarators parts →
    SoundParts asked env forms.DeclareNode (Some b) parts → env.declared ≡ Some d → is_deep env.scopes ≡ true →
    At P g asked.missing scope env → Finals g vars arrs →
    Extends (behind_parts env forms.DeclareNode false parts).variables vars →
    Extends (behind_parts env forms.DeclareNode false parts).arrays arrs →
    Line P g asked.missing scope env (all_lines (parts_meant env forms.DeclareNode false sites parts).pieces)
    (behind_parts env forms.DeclareNode false parts)
declarators_line P g asked vars arrs scope env sites b d none h s e dp a n ev ea =
    let z = no_declarator env false sites in
    subst (λ y. Line P g asked.missing scope env
    (all_lines (parts_meant env forms.DeclareNode false sites none).pieces) y) (sym z.0)
    (subst (λ y. Line P g asked.missing scope env (all_lines y) env) (sym z.1)
    (no_line P g asked.missing scope env a))
declarators_line P g asked vars arrs scope env sites b d (more p ps) h s e dp a n ev ea =
    let mid = behind env p in
    let sites1 = (meant env sites p).sites in
    let gp = one_declarator_grows asked env (role_of forms.DeclareNode (Some b) p) p h.0 s.0 dp in
    let x = subst (λ z. SoundParts asked z forms.DeclareNode (Some (last_of p)) ps)
    (next_declarator mid false p (kind_of env p) h.0) s.1 in
    let dm = deep_outer env.scopes mid.scopes dp gp.scopes in
    let gs = declarators_grow asked mid (Some (last_of p)) ps h.1 x dm in
    let lv = declare_leaves env false p ps h.0 in
    let last = behind_parts mid forms.DeclareNode false ps in
    let ev' = subst (λ (z : Env). Extends z.variables vars) lv ev in
    let ea' = subst (λ (z : Env). Extends z.arrays arrs) lv ea in
    let l1 = one_declarator P g asked vars arrs scope env sites (role_of forms.DeclareNode (Some b) p) d p h.0 s.0 e
    dp a n (extends_then mid.variables last.variables vars gs.variables ev')
    (extends_then mid.arrays last.arrays arrs gs.arrays ea') in
    let l2 = declarators_line P g asked vars arrs l1.scope' mid sites1 (last_of p) d ps h.1 x
    (ap (λ z. z.declared) gp.frame ∙ e) dm l1.at n ev' ea' in
    subst (λ y. Line P g asked.missing scope env
    (all_lines (parts_meant env forms.DeclareNode false sites (more p ps)).pieces) y) (sym lv)
    (subst (λ (y : MadeParts). Line P g asked.missing scope env (all_lines y.pieces) last)
    (sym (declare_meant env false sites p ps h.0))
    (line_then P g asked.missing scope env mid last (lines_of (meant env sites p).piece.what)
    (all_lines (parts_meant mid forms.DeclareNode false sites1 ps).pieces) l1 l2))

-- behind a declaration the type is as it was before it
closed_line : (P : Program) (g : Function) (ms : List (List ℕ)) (scope : Scope) (env : Env) (o : Option Declared)
    (ls : Statements) (inner : Env) → Grown (record env { declared = o }) inner →
    Line P g ms scope (record env { declared = o }) ls inner → Line P g ms scope env ls (closed env inner)
closed_line P g ms scope env o ls inner gr x = record {
  scope' = x.scope';
  at = at_later P g ms x.scope' inner (closed env inner) (outer_whole env.scopes inner.scopes gr.scopes) refl
      (omega arith) x.at;
  types' = x.types';
  scoped = x.scoped;
  exits = x.exits;
  declared = x.declared;
  roots = x.roots;
}

pub declaration_line : (P : Program) (g : Function) (asked : Asked) (vars : List Variable) (arrs : List Array)
    (scope : Scope) (env : Env) (sites : List Place) (role : Role) (t : Syntax) → IsDeclaration t →
    SoundTree asked env role t → is_deep env.scopes ≡ true →
    At P g asked.missing scope env → Finals g vars arrs → Extends (behind env t).variables vars →
    Extends (behind env t).arrays arrs →
    Line P g asked.missing scope env (lines_of (meant env sites t).piece.what) (behind env t)
declaration_line P g asked vars arrs scope env sites role (node forms.DeclareNode w f l (more t ds)) h s dp a n ev ea =
    let d = type_declares asked env roles.Other t h.0 (declare_sound asked env role w f l t ds h.0 s).0 in
    let i = typed_env env t in
    let be = declare_behind env w f l t ds h.0 in
    let inner = behind_parts i forms.DeclareNode false ds in
    let x = (declare_sound asked env role w f l t ds h.0 s).1 in
    let gr = declarators_grow asked i (Some (last_of t)) ds h.1 x dp in
    let ev' = subst (λ (z : Env). Extends z.variables vars) be ev in
    let ea' = subst (λ (z : Env). Extends z.arrays arrs) be ea in
    let y = declarators_line P g asked vars arrs scope i sites (last_of t) d.0 ds h.1 x d.1 dp
    (at_later P g asked.missing scope env i refl refl (omega arith) a) n ev' ea' in
    subst (λ z. Line P g asked.missing scope env
    (lines_of (meant env sites (node forms.DeclareNode w f l (more t ds))).piece.what) z) (sym be)
    (subst (λ z. Line P g asked.missing scope env (lines_of z) (closed env inner))
    (sym (ap (λ (z : Built). z.what) (declare_built env sites w f l t ds h.0)))
    (closed_line P g asked.missing scope env (declared_in t)
    (all_lines (parts_meant i forms.DeclareNode false sites ds).pieces) inner gr y))
declaration_line P g asked vars arrs scope env sites role t h s dp a n ev ea = absurd h
