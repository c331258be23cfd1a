-- Two declarators that differ in names and lengths alone are at fault together, and declare the same.
use Rattle.std.proofs.Common.{◌≡◌, ℕ, List, [], ◌∷◌, length, Option, None, Some, Bool, true, false, not}
use Rattle.std.proofs.Common.{◌&&◌, ◌||◌, nat_eq, if◌then◌else◌, refl, ap, sym, ◌∙◌, arith}
use Rattle.std.proofs.lemmas.Bool.{false≢true}
use Rattle.cl_model.specs.declared.program.Space.{Space}
use Rattle.cl_model.specs.declared.program.Space.TheVariants as spaces
use Rattle.cl_tree.specs.declared.tree.Form.TheVariants as forms
use Rattle.cl_tree.specs.Syntax.{node, Forest}
use Rattle.cl_meaning.specs.Spelling.{name_in}
use Rattle.cl_meaning.specs.declared.types.Declared.{Declared}
use Rattle.cl_meaning.specs.declared.fault.Fault.{Fault}
use Rattle.cl_meaning.specs.declared.fault.Fault.TheVariants as faults
use Rattle.cl_meaning.specs.declared.kind.Kind.{Kind}
use Rattle.cl_meaning.specs.declared.kind.Role.TheVariants as roles
use Rattle.cl_meaning.specs.Environment.{Env, Scope, Owner, is_declared, at_unit, at_outermost}
use Rattle.cl_meaning.specs.Kinds.{is_some, is_number}
use Rattle.cl_meaning.specs.Declarations.{Declarator, declarator_in, is_list, initial_values, dims_of, or_none, each_of}
use Rattle.cl_meaning.specs.Declarations.{last_kind}
use Rattle.cl_meaning.specs.Visible.{inside, restored, closed, behind_parts, kinds_of}
use Rattle.cl_meaning.specs.Faults.{Asked, Looked, at_fault, looked_at, misfits, tested_misfits, given, points_as}
use Rattle.cl_meaning.specs.Faults.{declarator_misfits, is_known_name, is_misplaced, no_program_variable, all_constant}
use Rattle.cl_meaning.specs.Faults.{is_constant_space}
use Rattle.cl_check_sound.proofs.Neutral.{closed_same}
use Rattle.cl_short_vec_faults.specs.SoundBut.{is_of_size}
use Rattle.cl_short_vec_faults.proofs.Building.{seen, NoFault}

-- what two declarators have in common that differ in their names and in the lengths of one dimension
pub record SameDeclarator (x y : Declarator) : Type 0 where
  pub star : y.star ≡ x.star
  pub dimensions : y.dimensions ≡ x.dimensions
  pub each' : each_of (or_none (dims_of y)) ≡ each_of (or_none (dims_of x))
  pub some : is_some y.init ≡ is_some x.init
  pub list : is_list y.init ≡ is_list x.init
  pub constants : all_constant (initial_values y.init) ≡ all_constant (initial_values x.init)

-- ---- scopes

pub unit_same : (p s : Env) → length s.scopes ≡ length p.scopes → at_unit s ≡ at_unit p
unit_same p s e = by s.scopes p.scopes e
  where
    by : (ss ps : List Scope) → length ss ≡ length ps → at_unit (record s { scopes = ss }) ≡
        at_unit (record p { scopes = ps })
    by [] [] h = refl
    by [] (t ∷ ts) h = absurd (omega arith)
    by (r ∷ rs) [] h = absurd (omega arith)
    by (r ∷ []) (t ∷ []) h = refl
    by (r ∷ []) (t ∷ (u ∷ us)) h = absurd (omega arith)
    by (r ∷ (q ∷ qs)) (t ∷ []) h = absurd (omega arith)
    by (r ∷ (q ∷ qs)) (t ∷ (u ∷ us)) h = refl

pub outermost_same : (p s : Env) → length s.scopes ≡ length p.scopes → at_outermost s ≡ at_outermost p
outermost_same p s e = by s.scopes p.scopes e
  where
    by : (ss ps : List Scope) → length ss ≡ length ps → at_outermost (record s { scopes = ss }) ≡
        at_outermost (record p { scopes = ps })
    by [] [] h = refl
    by [] (t ∷ ts) h = absurd (omega arith)
    by (r ∷ rs) [] h = absurd (omega arith)
    by (r ∷ []) (t ∷ []) h = refl
    by (r ∷ []) (t ∷ (u ∷ us)) h = absurd (omega arith)
    by (r ∷ (q ∷ qs)) (t ∷ []) h = absurd (omega arith)
    by (r ∷ (q ∷ [])) (t ∷ (u ∷ [])) h = refl
    by (r ∷ (q ∷ [])) (t ∷ (u ∷ (v ∷ vs))) h = absurd (omega arith)
    by (r ∷ (q ∷ (a ∷ as'))) (t ∷ (u ∷ [])) h = absurd (omega arith)
    by (r ∷ (q ∷ (a ∷ []))) (t ∷ (u ∷ (v ∷ []))) h = refl
    by (r ∷ (q ∷ (a ∷ []))) (t ∷ (u ∷ (v ∷ (z ∷ zs)))) h = absurd (omega arith)
    by (r ∷ (q ∷ (a ∷ (b ∷ bs)))) (t ∷ (u ∷ (v ∷ []))) h = absurd (omega arith)
    by (r ∷ (q ∷ (a ∷ (b ∷ bs)))) (t ∷ (u ∷ (v ∷ (z ∷ zs)))) h = refl

-- ---- conditions, by what they depend on

abbrev pub misfits_of : Declared → Option Bool → ℕ → (list some : Bool) → Option Kind → Bool
misfits_of d (Some fixed) n list some k =
    if nat_eq n 0 then list || (some && given k (λ a. not (points_as d a))) else true
misfits_of d None n list some k = if nat_eq n 0 then list || (some && given k (λ a. not (is_number a))) else
    some && (not list || given k (λ a. not (is_number a)))

pub misfits_by : (d : Declared) (x : Declarator) (k : Option Kind) →
    declarator_misfits (Some d) x k ≡ misfits_of d x.star x.dimensions (is_list x.init) (is_some x.init) k
misfits_by d x k = by x.star
  where
    by : (star : Option Bool) → declarator_misfits (Some d) (record x { star = star }) k ≡
        misfits_of d star x.dimensions (is_list x.init) (is_some x.init) k
    by None = refl
    by (Some fixed) = refl

misfits_same : (o : Option Declared) (x y : Declarator) (k : Option Kind) → SameDeclarator x y →
    declarator_misfits o y k ≡ declarator_misfits o x k
misfits_same None x y k h = refl
misfits_same (Some d) x y k h =
    misfits_by d y k ∙
    (ap (λ z. misfits_of d z y.dimensions (is_list y.init) (is_some y.init) k) h.star ∙
    (ap (λ z. misfits_of d x.star z (is_list y.init) (is_some y.init) k) h.dimensions ∙
    (ap (λ z. misfits_of d x.star x.dimensions z (is_some y.init) k) h.list ∙
    (ap (λ z. misfits_of d x.star x.dimensions (is_list x.init) z k) h.some ∙ sym (misfits_by d x k)))))

abbrev misplaced_of : (kernel outermost unit some : Bool) → Option Space → Bool
misplaced_of kernel outermost unit some (Some spaces.Local) = not (kernel && outermost) || some
misplaced_of kernel outermost unit some (Some spaces.Global) = not unit
misplaced_of kernel outermost unit some (Some spaces.Constant) = not unit
misplaced_of kernel outermost unit some s = false

misplaced_by : (n : Looked) (x : Declarator) (s : Option Space) →
    is_misplaced n x s ≡ misplaced_of n.env.owner.kernel (at_outermost n.env) (at_unit n.env) (is_some x.init) s
misplaced_by n x None = refl
misplaced_by n x (Some spaces.Local) = refl
misplaced_by n x (Some spaces.Global) = refl
misplaced_by n x (Some spaces.Constant) = refl
misplaced_by n x (Some spaces.Private) = refl

abbrev program_of : Declared → Option Bool → (some constants : Bool) → Bool
program_of d star some constants = not (is_constant_space d.space) || (is_some star || (not some || not constants))

either_false : (a b : Bool) → a ≡ false → b ≡ false → (a || b) ≡ false
either_false false b e h = h
either_false true b e h = absurd (false≢true (sym e))

pub first_false : (a b : Bool) → (a || b) ≡ false → a ≡ false
first_false true b h = h
first_false false b h = refl

-- ---- a declarator that is looked at

pub declarator_looked : (env : Env) (w : List ℕ) (f l : ℕ) (parts : Forest) →
    behind_parts env forms.DeclaratorNode true parts ≡ env →
    looked_at env roles.Other (node forms.DeclaratorNode w f l parts) ≡
    seen env roles.Other forms.DeclaratorNode w f parts (kinds_of env forms.DeclaratorNode true parts)
unfolding inside restored
declarator_looked env w f l parts e =
    ap (λ z. seen z roles.Other forms.DeclaratorNode w f parts (kinds_of env forms.DeclaratorNode true parts))
    (ap (closed env) e ∙ closed_same env)

module _ (asked : Asked) (p s : Env) (owner : s.owner ≡ p.owner) (declared' : s.declared ≡ p.declared)
    (depth : length s.scopes ≡ length p.scopes) (wp ws : List ℕ) (fp fs : ℕ) (P S : Forest)
    (kp ks : List (Option Kind)) (same : SameDeclarator (declarator_in wp fp P) (declarator_in ws fs S))
    (fit : (o : Option Declared) → declarator_misfits o (declarator_in wp fp P) (last_kind ks) ≡
    declarator_misfits o (declarator_in wp fp P) (last_kind kp))
    (new : (is_declared s (name_in ws) || is_known_name s (name_in ws)) ≡ false) where
  abbrev np : Looked
  np = seen p roles.Other forms.DeclaratorNode wp fp P kp

  abbrev ns : Looked
  ns = seen s roles.Other forms.DeclaratorNode ws fs S ks

  abbrev x : Declarator
  x = declarator_in wp fp P

  abbrev y : Declarator
  y = declarator_in ws fs S

  misplaced_same : (o : Option Space) → is_misplaced ns y o ≡ is_misplaced np x o
  misplaced_same o =
      misplaced_by ns y o ∙
      (ap (λ (z : Owner). misplaced_of z.kernel (at_outermost s) (at_unit s) (is_some y.init) o) owner ∙
      (ap (λ z. misplaced_of p.owner.kernel z (at_unit s) (is_some y.init) o) (outermost_same p s depth) ∙
      (ap (λ z. misplaced_of p.owner.kernel (at_outermost p) z (is_some y.init) o) (unit_same p s depth) ∙
      (ap (λ z. misplaced_of p.owner.kernel (at_outermost p) (at_unit p) z o) same.some ∙
      sym (misplaced_by np x o)))))

  local_same : (o : Option Declared) → given o (λ d. not (is_some y.star) && is_misplaced ns y d.space) ≡
      given o (λ d. not (is_some x.star) && is_misplaced np x d.space)
  local_same None = refl
  local_same (Some d) = ap (λ z. not (is_some z) && is_misplaced ns y d.space) same.star ∙
      ap (λ z. not (is_some x.star) && z) (misplaced_same d.space)

  program_same : (o : Option Declared) → given o (λ d. no_program_variable d y) ≡
      given o (λ d. no_program_variable d x)
  program_same None = refl
  program_same (Some d) =
      ap (λ z. program_of d z (is_some y.init) (all_constant (initial_values y.init))) same.star ∙
      (ap (λ z. program_of d x.star z (all_constant (initial_values y.init))) same.some ∙
      ap (λ z. program_of d x.star (is_some x.init) z) same.constants)

  rooted_same : (is_some y.star && (nat_eq y.dimensions 0 && not (is_some y.init))) ≡
      (is_some x.star && (nat_eq x.dimensions 0 && not (is_some x.init)))
  rooted_same =
      ap (λ z. is_some z && (nat_eq y.dimensions 0 && not (is_some y.init))) same.star ∙
      (ap (λ z. is_some x.star && (nat_eq z 0 && not (is_some y.init))) same.dimensions ∙
      ap (λ z. is_some x.star && (nat_eq x.dimensions 0 && not z)) same.some)

  pub declarator_at : NoFault asked np → (k : Fault) → is_of_size k ≡ false → at_fault asked ns k ≡ false
  unfolding misfits
  declarator_at h faults.UnknownName i = refl
  declarator_at h faults.DeclaredTwice i = new
  declarator_at h faults.OperandTypes i =
      either_false (declarator_misfits s.declared y (last_kind ks)) (tested_misfits ns)
      (ap (λ z. declarator_misfits z y (last_kind ks)) declared' ∙
      (misfits_same p.declared x y (last_kind ks) same ∙
      (fit p.declared ∙
      first_false (declarator_misfits p.declared x (last_kind kp)) (tested_misfits np) (h faults.OperandTypes)))) refl
  declarator_at h faults.ArgumentCount i = refl
  declarator_at h faults.ArgumentType i = refl
  declarator_at h faults.NotAssignable i = refl
  declarator_at h faults.ConstantWritten i = refl
  declarator_at h faults.OutsideType i = refl
  declarator_at h faults.LocalMisplaced i =
      ap (λ z. given z (λ d. not (is_some y.star) && is_misplaced ns y d.space)) declared' ∙
      (local_same p.declared ∙ h faults.LocalMisplaced)
  declarator_at h faults.ProgramVariable i =
      ap (λ z. z && given s.declared (λ d. no_program_variable d y)) (unit_same p s depth) ∙
      (ap (λ z. at_unit p && given z (λ d. no_program_variable d y)) declared' ∙
      (ap (λ z. at_unit p && z) (program_same p.declared) ∙ h faults.ProgramVariable))
  declarator_at h faults.KernelSignature i = refl
  declarator_at h faults.Recursion i = refl
  declarator_at h faults.PointerRoot i = rooted_same ∙ h faults.PointerRoot
  declarator_at h faults.ArrayLength i = absurd (false≢true (sym i))
  declarator_at h faults.Misplaced i = refl
  declarator_at h faults.CaseValue i = refl
  declarator_at h faults.ReturnFit i = refl
  declarator_at h faults.BarrierFlags i = refl
  declarator_at h faults.KernelTooLarge i = refl
  declarator_at h faults.PrivateMemory i = refl
  declarator_at h faults.BarriersTooDeep i = refl
  declarator_at h faults.NoSuchKernel i = refl
  declarator_at h faults.LocalMemory i = refl
  declarator_at h faults.PrototypeMatch i = refl
