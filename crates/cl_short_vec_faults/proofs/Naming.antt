-- What names stand for in the plain form and in the form: kinds of variables, and functions that are called.
use Rattle.std.proofs.Common.{◌≡◌, ℕ, ◌<◌, List, Option, None, Some, Bool, true, false, not, ◌&&◌, slice_get, refl, ap}
use Rattle.std.proofs.Common.{sym, ◌∙◌, subst, if◌then◌else◌}
use Rattle.std.proofs.lemmas.Bool.{false≢true}
use Rattle.wg_num.specs.declared.types.IntType.TheVariants as types
use Rattle.cl_meaning.specs.Spelling.{flag_in, intrinsic_in}
use Rattle.cl_meaning.specs.declared.names.Intrinsic.{Intrinsic}
use Rattle.cl_meaning.specs.declared.kind.Reach.TheVariants as reach
use Rattle.cl_meaning.specs.declared.kind.Kind.TheVariants as kinds
use Rattle.cl_meaning.specs.declared.kind.Meaning.{Meaning}
use Rattle.cl_meaning.specs.declared.kind.Meaning.TheVariants as meanings
use Rattle.cl_meaning.specs.Environment.{Env, Signature, meaning_of}
use Rattle.cl_meaning.specs.Kinds.{is_some, on_one, kind_of_meaning, is_flag, name_kind, number, defined_at}
use Rattle.cl_meaning.specs.Kinds.{Callee, known_as, callee_by, callee_of}
use Rattle.cl_meaning.specs.Visible.{in_arguments, is_fence_callee}
use Rattle.cl_meaning.specs.Faults.{Asked}
use Rattle.cl_short_vec.specs.declared.types.Vector.{Vector}
use Rattle.cl_short_vec.specs.declared.kinds.Reach.TheVariants.{Value, Variable, Element}
use Rattle.cl_short_vec.specs.declared.kinds.Kind as vectors
use Rattle.cl_short_vec.specs.declared.kinds.Kind.TheVariants.{Vectors, Pointer, Other}
use Rattle.cl_short_vec.specs.Kinds.{Names, calls_fence, is_vector}
use Rattle.cl_short_vec.specs.Nodes.{component_name}
use Rattle.cl_short_vec_faults.specs.Plainly.{has_point, unnumbered, meant_by, PointsAs, StandsAlike, Plainly}
use Rattle.cl_short_vec_faults.specs.Law.{AllGive, KindAs}
use Rattle.cl_short_vec_faults.specs.Parts.{KnownAlone}

-- ---- the number of a variable does not matter

kind_numberless : (o : Option Meaning) → on_one (unnumbered o) kind_of_meaning ≡ on_one o kind_of_meaning
kind_numberless None = refl
kind_numberless (Some (meanings.Scalar t c x)) = refl
kind_numberless (Some (meanings.Pointer s e c r fixed x)) = refl
kind_numberless (Some (meanings.Object s e c r)) = refl
kind_numberless (Some (meanings.Array s e c r i)) = refl
kind_numberless (Some (meanings.Function n)) = refl
kind_numberless (Some meanings.Undefined) = refl
kind_numberless (Some meanings.Kernel) = refl

callee_numberless : (env : Env) (q : List ℕ) (o : Option Meaning) → callee_by env q (unnumbered o) ≡ callee_by env q o
callee_numberless env q None = refl
callee_numberless env q (Some (meanings.Scalar t c x)) = refl
callee_numberless env q (Some (meanings.Pointer s e c r fixed x)) = refl
callee_numberless env q (Some (meanings.Object s e c r)) = refl
callee_numberless env q (Some (meanings.Array s e c r i)) = refl
callee_numberless env q (Some (meanings.Function n)) = refl
callee_numberless env q (Some meanings.Undefined) = refl
callee_numberless env q (Some meanings.Kernel) = refl

callee_there : (p s : Env) (q : List ℕ) (o : Option Meaning) → s.functions ≡ p.functions →
    callee_by s q o ≡ callee_by p q o
callee_there p s q (Some (meanings.Function n)) f = ap (λ (z : List Signature). defined_at n (slice_get z n)) f
callee_there p s q (Some meanings.Undefined) f = refl
callee_there p s q (Some (meanings.Scalar t c x)) f = refl
callee_there p s q (Some m) f = refl
callee_there p s q None f = refl

-- the same function is called
meant_callee : (p s : Env) (q : List ℕ) → s.functions ≡ p.functions → meant_by s q ≡ meant_by p q →
    callee_of s q ≡ callee_of p q
meant_callee p s q f e =
    callee_there p s q (meaning_of s q) f ∙ sym (callee_numberless p q (meaning_of s q)) ∙
    ap (callee_by p q) e ∙ callee_numberless p q (meaning_of p q)

-- a vector variable is no function
scalar_callee : (p : Env) (q : List ℕ) (o : Option Meaning) (m : Meaning) → unnumbered o ≡ Some m →
    callee_by p q (Some m) ≡ None → callee_by p q o ≡ None
scalar_callee p q o m e h = sym (callee_numberless p q o) ∙ ap (callee_by p q) e ∙ h

callee_by_kind : (k : vectors.Kind) (p s : Env) (q : List ℕ) → StandsAlike k q p s → s.functions ≡ p.functions →
    not (is_some (callee_of p q)) ≡ false → callee_of s q ≡ callee_of p q
callee_by_kind (Other b) p s q h f u = meant_callee p s q f h
callee_by_kind (Pointer s' c v) p s q h f u = meant_callee p s q f h.0
callee_by_kind (Vectors v Variable) p s q h f u =
    let nothing : callee_of p q ≡ None =
    scalar_callee p q (meaning_of p q) (meanings.Scalar v.of h.0 0) h.1 refl in
    absurd (false≢true (sym (subst (λ z. not (is_some z) ≡ false) nothing u)))
callee_by_kind (Vectors v Value) p s q h f u = absurd h
callee_by_kind (Vectors v (Element s' c)) p s q h f u = absurd h

pub callee_same : (names : Names) (p s : Env) (q : List ℕ) → Plainly names p s → has_point q ≡ false →
    not (is_some (callee_of p q)) ≡ false → callee_of s q ≡ callee_of p q
callee_same names p s q h n u = callee_by_kind (names q) p s q (h.names' q n) h.functions u

-- ---- variables

-- outside the argument of a fence a name has the kind of what it stands for
unflagged : (env : Env) (q : List ℕ) → env.flags ≡ false → name_kind env q ≡ on_one (meaning_of env q) kind_of_meaning
unflagged env q e = ap (λ z. if z && is_some (flag_in q) then Some (number types.Uint) else
    on_one (meaning_of env q) kind_of_meaning) e

meant_kind : (env : Env) (q : List ℕ) (m : Meaning) → env.flags ≡ false → meant_by env q ≡ Some m →
    name_kind env q ≡ kind_of_meaning m
meant_kind env q m e h = unflagged env q e ∙ sym (kind_numberless (meaning_of env q)) ∙
    ap (λ z. on_one z kind_of_meaning) h

kinds_meant : (p s : Env) (q : List ℕ) → s.flags ≡ p.flags → meant_by s q ≡ meant_by p q →
    name_kind s q ≡ name_kind p q
kinds_meant p s q f e =
    ap (λ z. if z && is_some (flag_in q) then Some (number types.Uint) else
    on_one (meaning_of s q) kind_of_meaning) f ∙
    ap (λ z. if is_flag p q then Some (number types.Uint) else z)
    (sym (kind_numberless (meaning_of s q)) ∙ ap (λ z. on_one z kind_of_meaning) e ∙
    kind_numberless (meaning_of p q))

variable_by : (k : vectors.Kind) (p s : Env) (q : List ℕ) → StandsAlike k q p s → s.flags ≡ p.flags →
    p.flags ≡ false → is_vector k ≡ false → (name_kind s q ≡ name_kind p q) × KindAs k (name_kind p q)
variable_by (Other b) p s q h f o u = (kinds_meant p s q f h, tt)
variable_by (Pointer s' c v) p s q h f o u =
    (kinds_meant p s q f h.0, subst (λ z. PointsAs s' c v z) (sym (unflagged p q o)) h.1)
variable_by (Vectors v r) p s q h f o u = absurd (false≢true (sym u))

-- a variable that is no vector
pub variable_same : (names : Names) (p s : Env) (q : List ℕ) → Plainly names p s → has_point q ≡ false →
    is_vector (names q) ≡ false → (name_kind s q ≡ name_kind p q) × KindAs (names q) (name_kind p q)
variable_same names p s q h n u = variable_by (names q) p s q (h.names' q n) h.flags h.outside u

-- a vector variable, and its components
pub record IsVariable (v : Vector) (p s : Env) (q : List ℕ) : Type 0 where
  pub fixed : Bool
  pub plain : name_kind p q ≡ Some (kinds.Number v.of (reach.Variable fixed))
  pub form : (c : ℕ) → c < v.count →
      name_kind s (component_name q c) ≡ Some (kinds.Number v.of (reach.Variable fixed))

pub vector_same : (v : Vector) (p s : Env) (q : List ℕ) → StandsAlike (Vectors v Variable) q p s →
    s.flags ≡ p.flags → p.flags ≡ false → IsVariable v p s q
vector_same v p s q h f o = record {
  fixed = h.0;
  plain = meant_kind p q (meanings.Scalar v.of h.0 0) o h.1;
  form = λ c l. meant_kind s (component_name q c) (meanings.Scalar v.of h.0 0) (f ∙ o) (h.2 c l);
}

-- ---- in the arguments of a call

inside_stands : (k : vectors.Kind) (p s : Env) (n q : List ℕ) → StandsAlike k q p s →
    StandsAlike k q (in_arguments p n) (in_arguments s n)
inside_stands (Other b) p s n q h = h
inside_stands (Pointer s' c v) p s n q h = h
inside_stands (Vectors v Variable) p s n q h = h
inside_stands (Vectors v Value) p s n q h = h
inside_stands (Vectors v (Element s' c)) p s n q h = h

pub plainly_inside : (names : Names) (p s : Env) (n : List ℕ) → Plainly names p s → callee_of s n ≡ callee_of p n →
    is_fence_callee (callee_of p n) ≡ false → Plainly names (in_arguments p n) (in_arguments s n)
plainly_inside names p s n h e o = record {
  functions = h.functions;
  owner = h.owner;
  declared = h.declared;
  flags = ap is_fence_callee e;
  outside = o;
  in_body = h.in_body;
  in_loop = h.in_loop;
  in_switch = h.in_switch;
  labels = h.labels;
  depth = h.depth;
  arrays = h.arrays;
  tables = h.tables;
  names' = λ q u. inside_stands (names q) p s n q (h.names' q u);
  narrow = h.narrow;
}

inside_callee : (env : Env) (b : Bool) (q : List ℕ) (o : Option Meaning) →
    callee_by (record env { flags = b }) q o ≡ callee_by env q o
inside_callee env b q (Some (meanings.Function n)) = refl
inside_callee env b q (Some meanings.Undefined) = refl
inside_callee env b q (Some m) = refl
inside_callee env b q None = refl

pub give_inside : (asked : Asked) (p : Env) (n : List ℕ) → AllGive asked p → AllGive asked (in_arguments p n)
give_inside asked p n g q c e =
    g q c (sym (inside_callee p (is_fence_callee (callee_of p n)) q (meaning_of p q)) ∙ e)

pub alone_inside : (p : Env) (n : List ℕ) → KnownAlone p → KnownAlone (in_arguments p n)
alone_inside p n h q i c k e =
    h q i c k (sym (inside_callee p (is_fence_callee (callee_of p n)) q (meaning_of p q)) ∙ e)

-- ---- which call is one of a fence

known_fence : (o : Option Intrinsic) → calls_fence o ≡ false → is_fence_callee (known_as o) ≡ false
known_fence None h = refl
known_fence (Some i) h = h

-- a name that is none of a fence calls none
pub other_callee : (env : Env) (q : List ℕ) (o : Option Meaning) → calls_fence (intrinsic_in q) ≡ false →
    is_fence_callee (callee_by env q o) ≡ false
other_callee env q None h = known_fence (intrinsic_in q) h
other_callee env q (Some (meanings.Function n)) h = by (slice_get env.functions n)
  where
    by : (g : Option Signature) → is_fence_callee (defined_at n g) ≡ false
    by None = refl
    by (Some g) = refl
other_callee env q (Some meanings.Undefined) h = refl
other_callee env q (Some m) h = refl

-- and that of a fence calls one, where no function of the unit has it
pub fence_callee : (env : Env) (q : List ℕ) → KnownAlone env → calls_fence (intrinsic_in q) ≡ true →
    not (is_some (callee_of env q)) ≡ false → is_fence_callee (callee_of env q) ≡ true
fence_callee env q h e u = by (intrinsic_in q) refl (callee_of env q) refl e u
  where
    by : (o : Option Intrinsic) → intrinsic_in q ≡ o → (c : Option Callee) → callee_of env q ≡ c →
        calls_fence o ≡ true → not (is_some c) ≡ false → is_fence_callee c ≡ true
    by None i c k e u = absurd (false≢true e)
    by (Some i) k None l e u = absurd (false≢true (sym u))
    by (Some i) k (Some c) l e u = ap (λ z. is_fence_callee (Some z)) (h q i c k l) ∙ e
