-- The theorem on expressions.
use Rattle.std.proofs.Common.{◌≡◌, ℕ, ℤ, pos, List, [], ◌∷◌, Option, None, Some, Bool, true, false, not, ◌&&◌, refl}
use Rattle.std.proofs.Common.{sym, subst, if◌then◌else◌, arith}
use Rattle.std.proofs.lemmas.Option.{none-some}
use Rattle.std.proofs.lemmas.Bool.{false≢true}
use Rattle.std.proofs.lemmas.Int.{ints}
use Rattle.wg_num.specs.declared.types.IntType.{IntType}
use Rattle.wg_num.specs.declared.types.IntType.TheVariants as types
use Rattle.wg_num.specs.declared.types.Place.{Place}
use Rattle.wg_num.specs.Wrap.{IsValue, half, modulus}
use Rattle.wg_num.specs.Bytes.{size_of}
use Rattle.cl_model.specs.Tree.{Function, Program}
use Rattle.cl_tree.specs.declared.tree.Form.TheVariants as forms
use Rattle.cl_tree.specs.Syntax.{Syntax, node, none, more}
use Rattle.cl_meaning.specs.declared.types.Base.{Base}
use Rattle.cl_meaning.specs.declared.types.Base.TheVariants as bases
use Rattle.cl_meaning.specs.declared.types.Declared.{Declared}
use Rattle.cl_meaning.specs.declared.operators.Prefix.{Prefix}
use Rattle.cl_meaning.specs.declared.operators.Prefix.TheVariants as prefixes
use Rattle.cl_meaning.specs.declared.operators.Postfix.{Postfix}
use Rattle.cl_meaning.specs.declared.operators.Postfix.TheVariants as postfixes
use Rattle.cl_meaning.specs.Spelling.{base_in, declared_in}
use Rattle.cl_meaning.specs.Constants.{number_constant, int_constant}
use Rattle.cl_meaning.proofs.Values.{IsFit}
use Rattle.cl_meaning.specs.declared.fault.Fault.TheVariants as faults
use Rattle.cl_meaning.specs.declared.kind.Meaning.{Meaning}
use Rattle.cl_meaning.specs.declared.kind.Role.{Role}
use Rattle.cl_meaning.specs.Environment.{Env, meaning_of}
use Rattle.cl_meaning.specs.Kinds.{is_some, number, literal_kind, name_kind, is_flag, on_one, kind_of_meaning}
use Rattle.cl_meaning.specs.Kinds.{cast_kind, prefix_kind, postfix_kind, is_constant_memory}
use Rattle.cl_meaning.specs.Faults.{Asked, Looked, at_fault, misfits, tested_misfits, given}
use Rattle.cl_meaning.specs.Faults.{given_first, lacks, prefix_misfits, postfix_misfits}
use Rattle.cl_meaning.specs.Faults.{prefix_assigns, postfix_assigns, unassignable}
use Rattle.cl_meaning.specs.Types as types_specs
use Rattle.cl_meaning.specs.Typed.{value, Piece}
use Rattle.cl_meaning.specs.Expressions.{cast_made, literal, number_what, truth_what, flagged_made, name_made}
use Rattle.cl_meaning.specs.Expressions.{prefix_made, postfix_made, size_what}
use Rattle.cl_check_sound.specs.Shape.{IsType, PrefixOf, indexes}
use Rattle.cl_check_sound.specs.Fits.{MeaningFits, Fits, PieceFits}
use Rattle.cl_check_sound.proofs.Typing.{literal_typed}
use Rattle.cl_check_sound.proofs.Calls.{name_fits}
use Rattle.cl_check_sound.specs.Sound.{SoundTree}
use Rattle.cl_check_sound.proofs.Cases.{the_some, neither_first, index_case, operator_case, address_case, content_case}
use Rattle.cl_check_sound.proofs.Cases.{cast_case, step_case}

-- ---- leaves

pub number_piece : (P : Program) (f : Function) (o : Option (IntType × ℕ)) → is_some o ≡ true →
    IsFit (number_constant o) → PieceFits P f (record { kind = literal_kind o; what = number_what o })
number_piece P f None h v = absurd (false≢true h)
number_piece P f (Some l) h v =
    record { kind = number l.0; known = refl; fits = (literal_typed P f (pos l.1) l.0 v, tt) }

pub truth_piece : (P : Program) (f : Function) (o : Option ℤ) → is_some o ≡ true → IsFit (int_constant o) →
    PieceFits P f (record { kind = Some (number types.Int); what = truth_what o })
truth_piece P f None h v = absurd (false≢true h)
truth_piece P f (Some z) h v =
    record { kind = number types.Int; known = refl; fits = (literal_typed P f z types.Int v, tt) }

uint_zero : IsValue types.Uint (pos 0)
unfolding half modulus
uint_zero = record { low = omega (arith, ints); high = omega (arith, ints) }

-- a name that is known has a kind, which its piece fits
meaning_piece : (P : Program) (f : Function) (ms : List (List ℕ)) (env : Env) (n : List ℕ) (place : Place)
    (sites : List Place) (o : Option Meaning) → ((m : Meaning) → o ≡ Some m → MeaningFits P f ms env.functions n m) →
    is_some (on_one o kind_of_meaning) ≡ true →
    PieceFits P f (record { kind = on_one o kind_of_meaning; what = (name_made place sites o).what })
meaning_piece P f ms env n place sites None h s = absurd (false≢true s)
meaning_piece P f ms env n place sites (Some m) h s =
    let r = the_some (kind_of_meaning m) s in
    record { kind = r.0; known = r.1; fits = name_fits P f ms env.functions n place sites m r.0 (h m refl) r.1 }

pub variable_piece : (P : Program) (f : Function) (ms : List (List ℕ)) (env : Env) (place : Place)
    (sites : List Place) (name : List ℕ) → Fits P f ms env → is_some (name_kind env name) ≡ true →
    PieceFits P f (record { kind = name_kind env name; what = (flagged_made env place sites name).what })
variable_piece P f ms env place sites name h s = by (is_flag env name) s
  where
    by : (b : Bool) → is_some (if b then Some (number types.Uint) else on_one (meaning_of env name) kind_of_meaning) ≡
        true →
        PieceFits P f (record {
          kind = if b then Some (number types.Uint) else on_one (meaning_of env name)
              kind_of_meaning;
          what = (if b then record {
            what = value (literal (pos 0) types.Uint);
            sites = sites;
          } else name_made place sites (meaning_of env name)).what;
        })
    by true s =
        record { kind = number types.Uint; known = refl; fits = (literal_typed P f (pos 0) types.Uint uint_zero, tt) }
    by false s = meaning_piece P f ms env name place sites (meaning_of env name) (h name) s

-- ---- what is not at fault

pub no_misfit : (asked : Asked) (n : Looked) → at_fault asked n faults.OperandTypes ≡ false → misfits n n.form ≡ false
no_misfit asked n h = neither_first (misfits n n.form) (tested_misfits n) h

pub not_known : (b : Bool) → not b ≡ false → b ≡ true
not_known true h = refl
not_known false h = absurd (false≢true (sym h))

and_second : (a b : Bool) → a ≡ true → (a && b) ≡ false → b ≡ false
and_second true b e h = h
and_second false b e h = absurd (false≢true e)

-- ---- prefixes and postfixes

size_value : (t : IntType) → IsValue types.Ulong (pos (size_of t))
unfolding half modulus
size_value types.Bool = record { low = omega (arith, ints); high = omega (arith, ints) }
size_value types.Char = record { low = omega (arith, ints); high = omega (arith, ints) }
size_value types.Uchar = record { low = omega (arith, ints); high = omega (arith, ints) }
size_value types.Short = record { low = omega (arith, ints); high = omega (arith, ints) }
size_value types.Ushort = record { low = omega (arith, ints); high = omega (arith, ints) }
size_value types.Int = record { low = omega (arith, ints); high = omega (arith, ints) }
size_value types.Uint = record { low = omega (arith, ints); high = omega (arith, ints) }
size_value types.Long = record { low = omega (arith, ints); high = omega (arith, ints) }
size_value types.Ulong = record { low = omega (arith, ints); high = omega (arith, ints) }

-- an operand that is an expression
pub prefix_piece : (P : Program) (f : Function) (o : Option Prefix) (place : Place) (sites : List Place) (p : Syntax)
    (e : Type 0) (a : Piece) → PrefixOf o p e → (e → PieceFits P f a) →
    (IsType p → (d : Declared) × (declared_in p ≡ Some d)) →
    given o (prefix_misfits (a.kind ∷ [])) ≡ false →
    (given o prefix_assigns && given_first (a.kind ∷ []) unassignable) ≡ false →
    (given o prefix_assigns && given_first (a.kind ∷ []) is_constant_memory) ≡ false →
    PieceFits P f (record {
      kind = on_one o (λ q. prefix_kind q (a.kind ∷ []));
      what = (prefix_made place sites (more p none) o (a ∷ [])).what;
    })
prefix_piece P f None place sites p e a h x d m u c = absurd h
prefix_piece P f (Some prefixes.Size) place sites p e a h x d m u c =
    subst (λ z. PieceFits P f (record { kind = Some (number types.Ulong); what = size_what z })) (sym (d h).1)
    (record {
      kind = number types.Ulong;
      known = refl;
      fits = (literal_typed P f (pos (size_of (d h).0.of)) types.Ulong (size_value (d h).0.of), tt);
    })
prefix_piece P f (Some (prefixes.Step op)) place sites p e a h x d m u c = step_case P f op false a (x h) u c
prefix_piece P f (Some (prefixes.Operator op)) place sites p e a h x d m u c = operator_case P f op a (x h) m
prefix_piece P f (Some prefixes.Address) place sites p e a h x d m u c = address_case P f a (x h) m
prefix_piece P f (Some prefixes.Content) place sites p e a h x d m u c = content_case P f place sites a (x h) m

pub step_piece : (P : Program) (f : Function) (o : Option Postfix) (place : Place) (sites : List Place) (a : Piece) →
    is_some o ≡ true → indexes o ≡ false → PieceFits P f a →
    (given o postfix_assigns && given_first (a.kind ∷ []) unassignable) ≡ false →
    (given o postfix_assigns && given_first (a.kind ∷ []) is_constant_memory) ≡ false →
    PieceFits P f (record {
      kind = on_one o (λ q. postfix_kind q (a.kind ∷ []));
      what = (postfix_made place sites o (a ∷ [])).what;
    })
step_piece P f None place sites a s i x u c = absurd (false≢true s)
step_piece P f (Some postfixes.Index) place sites a s i x u c = absurd (false≢true (sym i))
step_piece P f (Some (postfixes.Step op)) place sites a s i x u c = step_case P f op true a x u c

pub indexed_piece : (P : Program) (f : Function) (o : Option Postfix) (place : Place) (sites : List Place)
    (a b : Piece) → indexes o ≡ true → PieceFits P f a → PieceFits P f b →
    given o (postfix_misfits (a.kind ∷ b.kind ∷ [])) ≡ false →
    PieceFits P f (record {
      kind = on_one o (λ q. postfix_kind q (a.kind ∷ b.kind ∷ []));
      what = (postfix_made place sites o (a ∷ b ∷ [])).what;
    })
indexed_piece P f None place sites a b i x y m = absurd (false≢true i)
indexed_piece P f (Some postfixes.Index) place sites a b i x y m = index_case P f place sites a b x y m
indexed_piece P f (Some (postfixes.Step op)) place sites a b i x y m = absurd (false≢true i)

-- ---- types

-- a type that is not outside the profile declares something
declared_by : (o : Option Base) (constant : Bool) (space : _) → is_some o ≡ true →
    types_specs.is_outside_base o ≡ false → (d : Declared) × (types_specs.declared_as o constant space ≡ Some d)
declared_by None constant space s h = absurd (false≢true s)
declared_by (Some bases.Outside) constant space s h = absurd (false≢true (sym h))
declared_by (Some (bases.Integer of size)) constant space s h =
    (record { of = of; size = size; constant = constant; space = space }, refl)

pub type_declares : (asked : Asked) (env : Env) (role : Role) (t : Syntax) → IsType t → SoundTree asked env role t →
    (d : Declared) × (declared_in t ≡ Some d)
type_declares asked env role (node forms.TypeNode w f l none) h s =
    declared_by (base_in w) (types_specs.is_const w) None h (s.1.0 faults.OutsideType)
type_declares asked env role (node forms.TypeNode w f l (more (node forms.SpaceNode w' f' l' none) none)) h s =
    declared_by (base_in w) (types_specs.is_const w) (types_specs.space_in w') h (s.1.0 faults.OutsideType)
type_declares asked env role t h s = absurd h

-- a cast to a type that declares something
pub cast_piece : (P : Program) (f : Function) (sites : List Place) (o : Option Declared) (d : Declared)
    (t a : Piece) → o ≡ Some d → PieceFits P f a → given o (λ e. lacks (cast_kind (Some e)) (a.kind ∷ [])) ≡ false →
    PieceFits P f (record { kind = on_one a.kind (cast_kind o); what = (cast_made sites o (t ∷ a ∷ [])).what })
cast_piece P f sites None d t a e x m = absurd (none-some d e)
cast_piece P f sites (Some d') d t a e x m = cast_case P f d' a x m
