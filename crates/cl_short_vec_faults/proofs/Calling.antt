-- A call of arguments that are no vectors.
use Rattle.std.proofs.Common.{◌≡◌, ℕ, List, length, Option, None, Some, Bool, true, false, not, ◌&&◌, refl, ap, sym}
use Rattle.std.proofs.Common.{◌∙◌, subst}
use Rattle.std.proofs.lemmas.Bool.{false≢true}
use Rattle.cl_tree.specs.declared.tree.Form.TheVariants as forms
use Rattle.cl_tree.specs.Syntax.{node, Forest}
use Rattle.cl_meaning.specs.Spelling.{name_in}
use Rattle.cl_meaning.specs.declared.kind.Kind.{Kind}
use Rattle.cl_meaning.specs.declared.kind.Role.{Role}
use Rattle.cl_meaning.specs.Environment.{Env}
use Rattle.cl_meaning.specs.Kinds.{is_some, Callee, defined, undefined, known, callee_of, arity_fits, is_fence}
use Rattle.cl_meaning.specs.Kinds.{are_flags_alone, kind_step}
use Rattle.cl_meaning.specs.Visible.{inside, is_fence_callee, in_arguments}
use Rattle.cl_meaning.specs.Faults.{Asked, given, is_fence_call}
use Rattle.cl_check_sound.specs.Shape.{AreOperands}
use Rattle.cl_check_sound.specs.Sound.{SoundTree}
use Rattle.cl_check_sound.proofs.Plain.{kinds_here, SoundHere}
use Rattle.cl_short_vec.specs.declared.kinds.Kind.TheVariants.{Other}
use Rattle.cl_short_vec_faults.specs.Law.{AllGive}
use Rattle.cl_short_vec_faults.proofs.Building.{seen, NoFault, taken, Fine, fine, kind_here}
use Rattle.cl_short_vec_faults.proofs.Unchanged.{good_same}
use Rattle.cl_short_vec_faults.proofs.Known.{somes, call_known}
use Rattle.cl_short_vec_faults.proofs.Claims.{Has}

-- arguments in the plain form and in the form, with their kinds
pub record AllHave (asked : Asked) (p s : Env) (P S : Forest) : Type 0 where
  pub kinds' : List Kind
  pub plain_made : AreOperands P
  pub made : AreOperands S
  pub plain : kinds_here p P ≡ somes kinds'
  pub form : kinds_here s S ≡ somes kinds'
  pub sound : SoundHere asked s S

-- a fence has the argument that it takes
flags_there : (o : Option Callee) (n : ℕ) (b : Bool) → given o (λ c. not (arity_fits c n)) ≡ false →
    given o (λ c. is_fence_call c && (arity_fits c n && not b)) ≡ false → is_fence_callee o ≡ true → b ≡ true
flags_there None n b h k e = absurd (false≢true e)
flags_there (Some (defined m g)) n b h k e = absurd (false≢true e)
flags_there (Some undefined) n b h k e = absurd (false≢true e)
flags_there (Some (known i)) n b h k e = by (is_fence i) (arity_fits (known i) n) b e h k
  where
    by : (x y b : Bool) → x ≡ true → not y ≡ false → (x && (y && not b)) ≡ false → b ≡ true
    by true true true e h k = refl
    by true true false e h k = absurd (false≢true (sym k))
    by true false b e h k = absurd (false≢true (sym h))
    by false y b e h k = absurd (false≢true e)

-- what is visible in the arguments, and that a fence has the argument that it takes
pub call_here : (asked : Asked) (p : Env) (place : Role) (w : List ℕ) (f l : ℕ) (P : Forest) → AreOperands P →
    SoundTree asked p place (node forms.CallNode w f l P) →
    SoundHere asked (in_arguments p (name_in w)) P × (not (is_some (callee_of p (name_in w))) ≡ false) ×
    (is_fence_callee (callee_of p (name_in w)) ≡ true → are_flags_alone P ≡ true)
unfolding inside
call_here asked p place w f l P h so =
    let t = taken asked p place forms.CallNode w f l P refl h so in
    let ks = kinds_here (in_arguments p (name_in w)) P in
    let n = fine asked (seen p place forms.CallNode w f P ks) t.node' in (
      t.parts',
      n.known,
      flags_there (callee_of p (name_in w)) (length ks) (are_flags_alone P) n.counted n.flagged,
    )

-- of a call that is none of a fence, and of one with such an argument
flags_fine : (o : Option Callee) (n : ℕ) (b : Bool) → (is_fence_callee o ≡ true → b ≡ true) →
    given o (λ c. is_fence_call c && (arity_fits c n && not b)) ≡ false
flags_fine None n b h = refl
flags_fine (Some (defined m g)) n b h = refl
flags_fine (Some undefined) n b h = refl
flags_fine (Some (known i)) n b h = by (is_fence i) (arity_fits (known i) n) b h
  where
    by : (x y b : Bool) → (x ≡ true → b ≡ true) → (x && (y && not b)) ≡ false
    by false y b h = refl
    by true false b h = refl
    by true true true h = refl
    by true true false h = absurd (false≢true (h refl))

pub call_claim : (asked : Asked) (p s : Env) (place : Role) (w : List ℕ) (f l : ℕ) (P S : Forest) →
    AllHave asked (in_arguments p (name_in w)) (in_arguments s (name_in w)) P S →
    SoundTree asked p place (node forms.CallNode w f l P) → AllGive asked p →
    callee_of s (name_in w) ≡ callee_of p (name_in w) → s.owner ≡ p.owner →
    (is_fence_callee (callee_of s (name_in w)) ≡ true → are_flags_alone S ≡ true) →
    Has asked p s place (Other true) (node forms.CallNode w f l P) (node forms.CallNode w f l S)
unfolding inside kind_step
call_claim asked p s place w f l P S x so g c ow fl =
    let q = name_in w in
    let t = taken asked p place forms.CallNode w f l P refl x.plain_made so in
    let n : Fine asked (seen p place forms.CallNode w f P (somes x.kinds')) =
    fine asked (seen p place forms.CallNode w f P (somes x.kinds'))
    (subst (λ z. NoFault asked (seen p place forms.CallNode w f P z)) x.plain t.node') in
    let k = call_known asked q (callee_of p q) x.kinds' (g q) t.listed n.known n.counted n.passed in
    record {
      made = (refl, x.plain_made);
      kind = k.0;
      plain = kind_here p forms.CallNode w f l P refl x.plain_made ∙ ap (λ z. kind_step p forms.CallNode w P z)
          x.plain ∙
          k.1;
      as' = tt;
      good = good_same forms.CallNode refl asked p s place w f l P S (somes x.kinds') k.0 x.made c ow tt
          (flags_fine (callee_of s q) (length (somes x.kinds')) (are_flags_alone S) fl) t.listed
          x.sound
          x.form n k.1;
    }
