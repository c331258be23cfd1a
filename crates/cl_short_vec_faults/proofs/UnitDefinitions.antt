-- A function of a unit in which no node is at fault is the first of its name, and its number is its place.
use Rattle.std.proofs.Common.{◌≡◌, ℕ, ◌+◌, List, [], ◌∷◌, ◌++◌, length, take, Some, Bool, true, false, ◌||◌}
use Rattle.std.proofs.Common.{refl, ap, sym, ◌∙◌, subst, inl, inr, arith, slice_get}
use Rattle.std.proofs.lemmas.Bool.{false≢true}
use Rattle.std.specs.Str.{bytes_eq}
use Rattle.cl_model.specs.Lists.{Each}
use Rattle.cl_tree.specs.declared.tree.Form.TheVariants as forms
use Rattle.cl_tree.specs.Syntax.{Syntax, node, Forest, none, more}
use Rattle.cl_meaning.specs.Spelling.{name_in}
use Rattle.cl_meaning.specs.declared.kind.Role.TheVariants as roles
use Rattle.cl_meaning.specs.Environment.{Env, Signature, empty_scope, is_declared, is_firm, in_last}
use Rattle.cl_meaning.specs.Declarations.{signature_in}
use Rattle.cl_meaning.specs.Visible.{behind, behind_parts, kind_of, left, restored, visible_at, inside}
use Rattle.cl_meaning.specs.Visible.{without_variables, in_definition, with_function, definition_of, own_scope}
use Rattle.cl_meaning.specs.Faults.{Asked, is_known_name}
use Rattle.cl_check_sound.specs.Shape.{IsDefinitionOf, IsHeadOf, BehindHeadsOf}
use Rattle.cl_check_sound.specs.Sound.{SoundTree}
use Rattle.cl_check_sound.proofs.Constants.{OneScope}
use Rattle.cl_check_sound.proofs.Items.{name_of, bytes_same, definition_first, function_firm}
use Rattle.cl_check_sound.proofs.Fronts.{head_env, result_env, named_env, function_result}
use Rattle.cl_short_vec_faults.specs.PlainForm.{plain_of, plains_of}
use Rattle.cl_short_vec_faults.proofs.PlainForms.{plains_made}
use Rattle.cl_short_vec_faults.proofs.OuterKept.{parts_kept}
use Rattle.cl_short_vec_faults.proofs.Following.{IsDefined}
use Rattle.cl_short_vec_faults.proofs.FrontFaults.{sound_frame}
use Rattle.cl_short_vec_faults.proofs.NamedBeside.{same_name}
use Rattle.cl_short_vec_faults.proofs.HeadsBeside.{IsHeadTree, function_head}
use Rattle.cl_short_vec_faults.proofs.FunctionParts.{result_plain, twice_kept}

-- ---- the scope around a function

head_plain : (t : Syntax) → IsHeadOf true t → IsHeadTree (plain_of t)
unfolding plain_of plains_of
head_plain (node forms.HeadNode w f l none) h = tt
head_plain (node forms.HeadNode w f l (more (node forms.AttributeNode w' f' l' es) none)) h = plains_made es h
head_plain t h = absurd h

definition_kept : (env : Env) (front : Bool) (ts : Forest) → IsDefinitionOf true ts →
    take (length env.scopes) (behind_parts env forms.FunctionNode front (plains_of ts)).scopes ≡ env.scopes
unfolding behind_parts plains_of
definition_kept env front (more r (more p (more b none))) h =
    let r' = plain_of r in
    let rest = more (plain_of p) (more (plain_of b) none) in
    let e1 = result_env env r' in
    subst (λ z. take (length env.scopes) (behind_parts z forms.FunctionNode false rest).scopes ≡ env.scopes)
    (sym (function_result env front r' (kind_of env r') (result_plain r h.0).0))
    (twice_kept env.scopes (own_scope e1 e1.owner.number (slice_get e1.functions e1.owner.number)) empty_scope
    (behind_parts (named_env env r') forms.FunctionNode false rest).scopes
    (parts_kept rest forms.FunctionNode false (named_env env r')))
definition_kept env front none h = absurd h
definition_kept env front (more r none) h = absurd h
definition_kept env front (more r (more p none)) h = absurd h
definition_kept env front (more r (more p (more b (more c cs)))) h = absurd h

heads_kept : (env : Env) (front : Bool) (ts : Forest) → BehindHeadsOf true (IsDefinitionOf true) ts →
    take (length env.scopes) (behind_parts env forms.FunctionNode front (plains_of ts)).scopes ≡ env.scopes
unfolding behind_parts plains_of
heads_kept env front none h = absurd h
heads_kept env front (more (node head w f l hs) ts) (inl h) =
    let t' = plain_of (node head w f l hs) in
    subst (λ z. take (length env.scopes) (behind_parts z forms.FunctionNode false (plains_of ts)).scopes ≡ env.scopes)
    (sym (function_head env front t' (kind_of env t') (head_plain (node head w f l hs) h.0)))
    (heads_kept (head_env env t') false ts h.1)
heads_kept env front (more (node head w f l hs) ts) (inr h) = definition_kept env front (more (node head w f l hs) ts) h

-- ---- a function

abbrev inner : Env → List ℕ → Forest → Env
inner env w ts = behind_parts (in_definition env (name_in w)) forms.FunctionNode true (plains_of ts)

abbrev around : Env → List ℕ → Forest → Env
around env w ts = without_variables env (inner env w ts)

function_visible : (env : Env) (w : List ℕ) (f l : ℕ) (ts : Forest) →
    (visible_at env (node forms.FunctionNode w f l (plains_of ts)) ≡ around env w ts) ×
    (behind env (node forms.FunctionNode w f l (plains_of ts)) ≡ with_function (around env w ts) (name_in w))
unfolding behind restored left inside
function_visible env w f l ts = (refl, refl)

same_declared : (a b : Env) (q : List ℕ) → a.scopes ≡ b.scopes → is_declared a q ≡ is_declared b q
same_declared a b q e = ap (λ z. is_firm (in_last z q)) e

first_false : (a b : Bool) → (a || b) ≡ false → a ≡ false
first_false true b h = h
first_false false b h = refl

module _ (asked : Asked) (p : Env) (w : List ℕ) (f l : ℕ) (ts : Forest)
    (h : BehindHeadsOf true (IsDefinitionOf true) ts) (o : OneScope p) where
  kept : (around p w ts).scopes ≡ p.scopes
  kept = heads_kept (in_definition p (name_in w)) true ts h

  -- its name is declared behind it
  pub function_declared : is_declared (behind p (node forms.FunctionNode w f l (plains_of ts))) (name_in w) ≡ true
  function_declared =
      subst (λ z. is_declared z (name_in w) ≡ true) (sym (function_visible p w f l ts).1)
      (function_firm (around p w ts) (name_in w) (o.0, kept ∙ o.1))

  -- and not in front of it
  function_new : SoundTree asked p roles.Other (node forms.FunctionNode w f l (plains_of ts)) →
      is_declared p (name_in w) ≡ false
  function_new s =
      let fr = sound_frame asked p forms.FunctionNode w f l (plains_of ts) s.1.0 in
      let once = subst (λ (z : Env). (is_declared z (name_in w) || is_known_name z (name_in w)) ≡ false)
      (function_visible p w f l ts).0 fr.once in
      sym (same_declared (around p w ts) p (name_in w) kept) ∙
      first_false (is_declared (around p w ts) (name_in w)) (is_known_name (around p w ts) (name_in w)) once

  -- ---- the functions before it

  others : (name : List ℕ) (done : List Signature) → is_declared p name ≡ false →
      Each (λ (g : Signature). is_declared p g.name ≡ true) done →
      Each (λ (g : Signature). bytes_eq g.name name ≡ false) done
  others name [] n e = tt
  others name (g ∷ done) n e = (by (bytes_eq g.name name) refl, others name done n e.1)
    where
      by : (b : Bool) → bytes_eq g.name name ≡ b → b ≡ false
      by true t = absurd (false≢true (sym n ∙ (ap (is_declared p) (sym (same_name g.name name t)) ∙ e.0)))
      by false t = refl

  slice_behind : (done : List Signature) (g : Signature) (rest : List Signature) →
      slice_get (done ++ g ∷ rest) (length done) ≡ Some g
  slice_behind [] g rest = refl
  slice_behind (x ∷ done) g rest = slice_behind done g rest

  pub function_defined : (done rest : List Signature) →
      SoundTree asked p roles.Other (node forms.FunctionNode w f l (plains_of ts)) →
      Each (λ (g : Signature). is_declared p g.name ≡ true) done →
      p.functions ≡ done ++ signature_in w (plains_of ts) ∷ rest →
      IsDefined p (node forms.FunctionNode w f l (plains_of ts))
  function_defined done rest s e g =
      let sg = signature_in w (plains_of ts) in (
        length done,
        ap (λ z. definition_of (record p { functions = z }) (name_in w)) g ∙
            (definition_first (name_in w) 0 done sg rest (others (name_in w) done (function_new s) e)
            (ap (λ z. bytes_eq z (name_in w)) (name_of w (plains_of ts)) ∙ bytes_same (name_in w)) ∙
            ap (λ z. Some (z, sg.kernel)) (let q : 0 + length done ≡ length done = omega arith in q)),
        ap (λ z. slice_get z (length done)) g ∙ slice_behind done sg rest,
      )
