-- Parameters: they are the same trees in the plain form and in the form, and are at fault in neither.
use Rattle.std.proofs.Common.{◌≡◌, ℕ, suc, ◌≤◌, List, [], ◌∷◌, ◌++◌, length, Option, None, Some, Bool, true, false}
use Rattle.std.proofs.Common.{◌&&◌, refl, ap, sym, ◌∙◌, subst, arith}
use Rattle.std.proofs.lemmas.Bool.{false≢true}
use Rattle.std.proofs.lemmas.Option.{none-some, same_Some}
use Rattle.cl_model.specs.declared.program.Root.TheVariants as roots
use Rattle.cl_model.specs.declared.program.VarKind.TheVariants as var_kinds
use Rattle.cl_tree.specs.declared.tree.Form.{Form}
use Rattle.cl_tree.specs.declared.tree.Form.TheVariants as forms
use Rattle.cl_tree.specs.Syntax.{Syntax, node, Forest, none, more, last_of}
use Rattle.cl_meaning.specs.Spelling.{name_in}
use Rattle.cl_meaning.specs.Types.{declared_in, is_const, space_among}
use Rattle.cl_meaning.specs.declared.types.Declared.{Declared}
use Rattle.cl_meaning.specs.declared.kind.Each.TheVariants as each
use Rattle.cl_meaning.specs.declared.kind.Reach.TheVariants as reach
use Rattle.cl_meaning.specs.declared.kind.Kind.TheVariants as kinds
use Rattle.cl_meaning.specs.declared.kind.Meaning.{Meaning}
use Rattle.cl_meaning.specs.declared.kind.Meaning.TheVariants as meanings
use Rattle.cl_meaning.specs.declared.kind.Role.TheVariants as roles
use Rattle.cl_meaning.specs.Environment.{Env, Variable, meaning_of, declare, is_declared, place_of}
use Rattle.cl_meaning.specs.Kinds.{Callee, callee_by, on_one, kind_of_meaning}
use Rattle.cl_meaning.specs.Declarations.{firm, first_type, second_star, with_parameter, pointed_space, word_of}
use Rattle.cl_meaning.specs.Declarations.{parts_of}
use Rattle.cl_meaning.specs.Visible.{Before, is_front, role_of, inside, later, restored, closed, behind, behind_parts}
use Rattle.cl_meaning.specs.Visible.{kind_of, left, visible_at}
use Rattle.cl_meaning.specs.Faults.{Asked, given, no_kernel_parameter}
use Rattle.cl_check_sound.specs.Shape.{IsType, IsParam, AreParams}
use Rattle.cl_check_sound.specs.Sound.{SoundTree, SoundParts}
use Rattle.cl_check_sound.proofs.Neutral.{closed_same, behind_type}
use Rattle.cl_check_sound.proofs.Growth.{star_leaves}
use Rattle.cl_check_sound.proofs.Heads.{param_leaves}
use Rattle.cl_check_sound.proofs.Typed.{type_declares}
use Rattle.cl_check_sound.proofs.Grown.{SameOuter, outer_same, outer_then, outer_into, outer_whole}
use Rattle.cl_check_sound.proofs.Fronts.{params_env}
use Rattle.cl_short_vec.specs.declared.types.Vector.{Vector}
use Rattle.cl_short_vec.specs.declared.kinds.Kind.TheVariants.{Other}
use Rattle.cl_short_vec.specs.Types.{vector_type}
use Rattle.cl_short_vec.specs.Kinds.{Names, with_name, pointed_by, parameter_kind, behind_parameter}
use Rattle.cl_short_vec.specs.Kinds.{behind_parameters}
use Rattle.cl_short_vec.proofs.Small.{SmallVector, type_small}
use Rattle.cl_short_vec_faults.specs.PlainForm.{plain_of, plains_of}
use Rattle.cl_short_vec_faults.specs.Plainly.{unnumbered, StandsAlike, width_in}
use Rattle.cl_short_vec_faults.specs.SoundBut.{SoundBut, AllSoundBut}
use Rattle.cl_short_vec_faults.specs.Beside.{IsName, Beside}
use Rattle.cl_short_vec_faults.specs.UnitLaw.{DeclaredNames, AllDeclaredNames}
use Rattle.cl_short_vec_faults.proofs.PlainForms.{type_plain}
use Rattle.cl_short_vec_faults.proofs.BesideMoves.{beside_marked}
use Rattle.cl_short_vec_faults.proofs.FrontFaults.{is_still, still_but, Frame, seen_at, sound_frame, frame_but}
use Rattle.cl_short_vec_faults.proofs.NamedBeside.{has_scope, meant_there, last_declared, scope_by_length, Fresh}
use Rattle.cl_short_vec_faults.proofs.NamedBeside.{beside_named}
use Rattle.cl_short_vec_faults.proofs.ComponentTypes.{components_declared, pointed_is}
use Rattle.cl_short_vec_faults.proofs.LineWords.{declared_with}

-- ---- trees at whose nodes nothing depends on what is visible

abbrev mutual
  pub IsStill : Syntax → Type 0
  IsStill (node form w f l parts) = (is_still form ≡ true) × AreStill parts

  pub AreStill : Forest → Type 0
  AreStill none = Unit {0}
  AreStill (more p ps) = IsStill p × AreStill ps

pub role_still : (form : Form) → is_still form ≡ true → (b : Before) (p : Syntax) → role_of form b p ≡ roles.Other
role_still forms.SimpleNode h b p = absurd (false≢true h)
role_still forms.IfNode h b p = absurd (false≢true h)
role_still forms.WhileNode h b p = absurd (false≢true h)
role_still forms.SwitchNode h b p = absurd (false≢true h)
role_still forms.DoNode h b p = absurd (false≢true h)
role_still forms.ForNode h b p = absurd (false≢true h)
role_still _ h b p = refl

mutual
  pub still_tree : (asked : Asked) (env env' : Env) (t : Syntax) → IsStill t → SoundTree asked env roles.Other t →
      SoundBut asked env' roles.Other t
  still_tree asked env env' (node form w f l parts) h s = (
    still_parts asked (inside env form w) (inside env' form w) form (role_still form h.0) None None parts h.1 s.0,
    still_but asked env env' form w f l f l parts parts h.0 s.1.0,
  )

  pub still_parts : (asked : Asked) (env env' : Env) (form : Form) →
      ((b : Before) (p : Syntax) → role_of form b p ≡ roles.Other) → (b b' : Before) (parts : Forest) →
      AreStill parts → SoundParts asked env form b parts → AllSoundBut asked env' form b' parts
  still_parts asked env env' form g b b' none h s = tt
  still_parts asked env env' form g b b' (more p ps) h s = (
    subst (λ r. SoundBut asked env' r p) (sym (g b' p)) (still_tree asked env env' p h.0
        (subst (λ r. SoundTree asked env r p) (g b p) s.0)),
    still_parts asked (later (behind env p) form (is_front b) p (kind_of env p))
        (later (behind env' p) form (is_front b') p (kind_of env' p)) form g (Some (last_of p)) (Some (last_of p)) ps
        h.1 s.1,
  )

pub type_still : (t : Syntax) → IsType t → IsStill (plain_of t)
unfolding plain_of plains_of
type_still (node forms.TypeNode w f l none) h = (refl, tt)
type_still (node forms.TypeNode w f l (more (node forms.SpaceNode w' f' l' none) none)) h = (refl, ((refl, tt), tt))
type_still t h = absurd h

-- ---- a parameter

param_shape : (ps : Forest) → (w : List ℕ) (f l : ℕ) → IsParam (node forms.ParamNode w f l ps) →
    IsParam (node forms.ParamNode w f l (plains_of ps)) × AreStill (plains_of ps)
unfolding plain_of plains_of
param_shape (more t none) w f l h = (type_plain t h, (type_still t h, tt))
param_shape (more t (more (node forms.StarNode w' f' l' none) none)) w f l h =
    (type_plain t h, (type_still t h, ((refl, tt), tt)))
param_shape ps w f l h = absurd h

param_inner : (env : Env) (w : List ℕ) (f l : ℕ) (parts : Forest) → IsParam (node forms.ParamNode w f l parts) →
    behind_parts env forms.ParamNode true parts ≡ env
unfolding behind_parts later
param_inner env w f l (more t none) h = behind_type env t h
param_inner env w f l (more t (more (node forms.StarNode w' f' l' none) none)) h =
    star_leaves (behind env t) w' f' l' ∙ behind_type env t h
param_inner env w f l parts h = absurd h

param_visible : (env : Env) (w : List ℕ) (f l : ℕ) (parts : Forest) → IsParam (node forms.ParamNode w f l parts) →
    visible_at env (node forms.ParamNode w f l parts) ≡ env
unfolding restored inside
param_visible env w f l parts h = ap (λ z. closed env z) (param_inner env w f l parts h) ∙ closed_same env

-- what is at fault at it, by what is visible
frame_at : (asked : Asked) (env : Env) (w : List ℕ) (f l : ℕ) (parts : Forest) →
    IsParam (node forms.ParamNode w f l parts) → Frame asked (seen_at env forms.ParamNode w f l parts) →
    ((env.owner.defining && is_declared env (name_in w)) ≡ false) ×
    ((env.owner.kernel && given (first_type parts) (λ d. no_kernel_parameter d (second_star parts))) ≡ false)
frame_at asked env w f l parts h x =
    let e = param_visible env w f l parts h in (
      subst (λ (z : Env). (z.owner.defining && is_declared z (name_in w)) ≡ false) e x.once,
      subst (λ (z : Env). (z.owner.kernel && given (first_type parts)
          (λ d. no_kernel_parameter d (second_star parts))) ≡ false) e x.kernel,
    )

at_frame : (asked : Asked) (env : Env) (w : List ℕ) (f l : ℕ) (parts : Forest) →
    IsParam (node forms.ParamNode w f l parts) → (env.owner.defining && is_declared env (name_in w)) ≡ false →
    (env.owner.kernel && given (first_type parts) (λ d. no_kernel_parameter d (second_star parts))) ≡ false →
    Frame asked (seen_at env forms.ParamNode w f l parts)
at_frame asked env w f l parts h a b =
    let e = param_visible env w f l parts h in record {
      once = subst (λ (z : Env). (z.owner.defining && is_declared z (name_in w)) ≡ false) (sym e) a;
      inside' = refl;
      kernel = subst (λ (z : Env). (z.owner.kernel && given (first_type parts)
          (λ d. no_kernel_parameter d (second_star parts))) ≡ false) (sym e) b;
      there = refl;
      match' = refl;
    }

not_twice : (a b c : Bool) → (a && b) ≡ false → (c ≡ true → b ≡ true) → (a && c) ≡ false
not_twice false b c h g = refl
not_twice true b true h g = absurd (false≢true (sym h ∙ g refl))
not_twice true b false h g = refl

-- ---- what it stands for

-- the meaning of a parameter with a number
abbrev param_meaning : Declared → Option Bool → ℕ → Meaning
param_meaning d None x = meanings.Scalar d.of d.constant x
param_meaning d (Some fixed) x = meanings.Pointer (pointed_space d) d.of d.constant (roots.Param x) fixed x

pointed_none : (o : Option Vector) (type : Syntax) → pointed_by o None type ≡ (Other true)
pointed_none None type = refl
pointed_none (Some v) type = refl

narrow_pointer : (o : Option Vector) (star : Option Bool) (type : Syntax) → SmallVector o →
    width_in (pointed_by o star type) ≤ 16
narrow_pointer (Some v) (Some fixed) type h = h
narrow_pointer (Some v) None type h = omega arith
narrow_pointer None star type h = omega arith

narrow_param : (parts : Forest) → width_in (parameter_kind parts) ≤ 16
narrow_param none = omega arith
narrow_param (more type others) =
    narrow_pointer (vector_type type) (second_star (more type others)) type (type_small type)

-- a pointer to vectors points to numbers of the type of their components
pointer_alike : (name : List ℕ) (p s : Env) (type : Syntax) (d : Declared) (fixed : Bool) (x : ℕ) → IsType type →
    declared_in (plain_of type) ≡ Some d → meaning_of p name ≡ Some (param_meaning d (Some fixed) x) →
    meaning_of s name ≡ Some (param_meaning d (Some fixed) x) → (o : Option Vector) →
    vector_type type ≡ o → StandsAlike (pointed_by o (Some fixed) type) name p s
pointer_alike name p s type d fixed x h dt a b None e = ap unnumbered b ∙ sym (ap unnumbered a)
pointer_alike name p s type d fixed x h dt a b (Some v) e =
    let c : d ≡ declared_with (space_among (parts_of type)) (is_const (word_of type)) v.of =
    same_Some _ _ (sym dt ∙ components_declared type v h e) in (
      ap unnumbered b ∙ sym (ap unnumbered a),
      (
        roots.Param x,
        reach.Variable fixed,
        ap (λ z. on_one z kind_of_meaning) a ∙
            (ap (λ (z : Declared). Some (kinds.Pointer (pointed_space z) z.of z.constant (roots.Param x) each.Element
            (reach.Variable fixed))) c ∙
            ap (λ z. Some (kinds.Pointer z v.of (is_const (word_of type)) (roots.Param x) each.Element
            (reach.Variable fixed))) (pointed_is (space_among (parts_of type)) (is_const (word_of type)) v.of)),
      ),
    )

number_alike : (name : List ℕ) (p s : Env) (type : Syntax) (m : Meaning) →
    meaning_of p name ≡ Some m → meaning_of s name ≡ Some m → (o : Option Vector) →
    StandsAlike (pointed_by o None type) name p s
number_alike name p s type m a b o = subst (λ k. StandsAlike k name p s) (sym (pointed_none o type))
    (ap unnumbered b ∙ sym (ap unnumbered a))

param_alike : (name : List ℕ) (p s : Env) (w : List ℕ) (f l : ℕ) (parts : Forest) (d : Declared) (x : ℕ) →
    IsParam (node forms.ParamNode w f l parts) → first_type (plains_of parts) ≡ Some d →
    meaning_of p name ≡ Some (param_meaning d (second_star (plains_of parts)) x) →
    meaning_of s name ≡ Some (param_meaning d (second_star (plains_of parts)) x) →
    StandsAlike (parameter_kind parts) name p s
unfolding plain_of plains_of
param_alike name p s w f l (more t none) d x h dt a b =
    number_alike name p s t (param_meaning d None x) a b (vector_type t)
param_alike name p s w f l (more t (more (node forms.StarNode w' f' l' none) none)) d x h dt a b =
    pointer_alike name p s t d (is_const w') x h dt a b (vector_type t) refl
param_alike name p s w f l parts d x h dt a b = absurd h

-- ---- both sides

abbrev more_variables : Env → List Variable → Env
more_variables env vs = record env { variables = vs }

param_declares : (env : Env) (name : List ℕ) (token : ℕ) (d : Declared) (star : Option Bool) →
    (vs : List Variable) × (v : Variable) × (vs ≡ env.variables ++ v ∷ []) ×
    (with_parameter env name token (Some d) star ≡
    declare (more_variables env vs) name (firm (param_meaning d star (length env.variables))))
param_declares env name token d None = (
  env.variables ++ record { name = name; kind = var_kinds.Scalar d.of; place = place_of env token } ∷ [],
  record { name = name; kind = var_kinds.Scalar d.of; place = place_of env token },
  refl,
  refl,
)
param_declares env name token d (Some fixed) = (
  env.variables ++ record {
    name = name;
    kind = var_kinds.Pointer (pointed_space d) d.of (roots.Param (length env.variables));
    place = place_of env token;
  } ∷ [],
  record {
    name = name;
    kind = var_kinds.Pointer (pointed_space d) d.of (roots.Param (length env.variables));
    place = place_of env token;
  },
  refl,
  refl,
)

length_more : {A : Type 0} (xs : List A) (x : A) → length (xs ++ x ∷ []) ≡ suc (length xs)
length_more [] x = refl
length_more (y ∷ xs) x = ap suc (length_more xs x)

-- what is visible behind one parameter, or several
pub record Further (asked : Asked) (names : Names) (n : ℕ) (p s p' s' : Env) : Type 0 where
  pub beside : Beside asked names n p' s'
  pub numbers : length s'.variables ≡ length p'.variables
  pub there : has_scope p'.scopes ≡ true
  pub plain : SameOuter p.scopes p'.scopes
  pub form : SameOuter s.scopes s'.scopes

scope_outer : (ss ts : List _) → SameOuter ss ts → has_scope ss ≡ true → has_scope ts ≡ true
scope_outer [] ts h k = absurd (false≢true k)
scope_outer (s ∷ ss) (t ∷ ts) h k = refl
scope_outer (s ∷ []) [] h k = absurd h
scope_outer (s ∷ (r ∷ rs)) [] h k = absurd h

module _ (asked : Asked) where
  no_call : (p : Env) (name : List ℕ) (d : Declared) (star : Option Bool) (x : ℕ) (c : Callee) →
      callee_by p name (Some (param_meaning d star x)) ≡ Some c → ⊥
  no_call p name d None x c h = none-some c h
  no_call p name d (Some fixed) x c h = none-some c h

  param_fresh : (p s : Env) (w : List ℕ) (f l : ℕ) (parts : Forest) (d : Declared) (x y : ℕ) → x ≡ y →
      IsParam (node forms.ParamNode w f l parts) → IsName (name_in w) →
      has_scope p.scopes ≡ true →
      has_scope s.scopes ≡ true → first_type (plains_of parts) ≡ Some d →
      Fresh asked p s (name_in w) (parameter_kind parts)
      (firm (param_meaning d (second_star (plains_of parts)) x))
      (firm (param_meaning d (second_star (plains_of parts)) y))
  param_fresh p s w f l parts d x y e h is t t' dt =
      let name = name_in w in
      let star = second_star (plains_of parts) in
      let m = firm (param_meaning d star x) in
      subst (λ z. Fresh asked p s name (parameter_kind parts) m (firm (param_meaning d star z))) e (record {
        is = is;
        narrow = narrow_param parts;
        alike = param_alike name (declare p name m) (declare s name m) w f l parts d x h dt
            (meant_there p t name m) (meant_there s t' name m);
        both = ((λ z. refl), λ z. refl);
        gives = λ c z. absurd (no_call p name d star x c z);
        alone = λ i c q z. absurd (no_call p name d star x c z);
      })

  -- behind a parameter
  param_further : (names : Names) (n : ℕ) (p s : Env) (w : List ℕ) (f l : ℕ) (parts : Forest) (d : Declared) →
      IsParam (node forms.ParamNode w f l parts) → IsName (name_in w) →
      first_type (plains_of parts) ≡ Some d → Further asked names n p s p s →
      Further asked (behind_parameter names (node forms.ParamNode w f l parts)) n p s
      (with_parameter p (name_in w) l (Some d) (second_star (plains_of parts)))
      (with_parameter s (name_in w) l (Some d) (second_star (plains_of parts)))
  param_further names n p s w f l parts d h is dt fu =
      let name = name_in w in
      let star = second_star (plains_of parts) in
      let (vs, v, e, g) = param_declares p name l d star in
      let (us, u, i, j) = param_declares s name l d star in
      let p1 = more_variables p vs in
      let s1 = more_variables s us in
      let y = fu.beside.plainly in
      let be = beside_marked asked names n p s p1 s1 refl refl refl refl y.owner y.declared y.flags
      fu.beside.unflagged y.in_body y.in_loop
      y.in_switch y.labels y.arrays y.tables fu.beside in
      let there' = scope_by_length p.scopes s.scopes y.depth fu.there in
      let fr = param_fresh p1 s1 w f l parts d (length p.variables) (length s.variables) (sym fu.numbers) h is fu.there
      there' dt in
      let nb = beside_named asked names n p1 s1 name (parameter_kind parts) _ _ fr fu.there be in
      let op = outer_into p.scopes name (firm (param_meaning d star (length p.variables))) in
      let os = outer_into s.scopes name (firm (param_meaning d star (length s.variables))) in
      subst (λ z. Further asked (with_name names name (parameter_kind parts)) n p s z
      (with_parameter s name l (Some d) star)) (sym g)
      (subst (λ z. Further asked (with_name names name (parameter_kind parts)) n p s
      (declare p1 name (firm (param_meaning d star (length p.variables)))) z) (sym j) (record {
        beside = nb;
        numbers = ap length i ∙ (length_more s.variables u ∙ (ap suc fu.numbers ∙
            sym (ap length e ∙ length_more p.variables v)));
        there = scope_outer p.scopes _ op fu.there;
        plain = op;
        form = os;
      }))

  param_type : (env : Env) (role : _) (w : List ℕ) (f l : ℕ) (parts : Forest) →
      IsParam (node forms.ParamNode w f l parts) →
      SoundTree asked env role (node forms.ParamNode w f l (plains_of parts)) →
      (d : Declared) × (first_type (plains_of parts) ≡ Some d)
  unfolding inside plain_of plains_of
  param_type env role w f l (more t none) h s = type_declares asked env _ (plain_of t) (type_plain t h) s.0.0
  param_type env role w f l (more t (more (node forms.StarNode w' f' l' none) none)) h s =
      type_declares asked env _ (plain_of t) (type_plain t h) s.0.0
  param_type env role w f l parts h s = absurd h

  -- a parameter of which no node of the plain form is at fault
  one_param : (names : Names) (n : ℕ) (p s : Env) (t : Syntax) → IsParam t → DeclaredNames t →
      Further asked names n p s p s → SoundTree asked p roles.Other (plain_of t) →
      SoundBut asked s roles.Other (plain_of t) ×
      Further asked (behind_parameter names t) n p s (behind p (plain_of t)) (behind s (plain_of t))
  unfolding plain_of
  one_param names n p s (node forms.ParamNode w f l parts) h is fu so =
      let qs = plains_of parts in
      let name = name_in w in
      let star = second_star qs in
      let (sh, st) = param_shape parts w f l h in
      let (d, dt) = param_type p roles.Other w f l parts h so in
      let (once, kernel) = frame_at asked p w f l qs sh (sound_frame asked p forms.ParamNode w f l qs so.1.0) in
      let ow = fu.beside.plainly.owner in
      let once' = subst (λ o. (o.defining && is_declared s name) ≡ false) (sym ow)
      (not_twice p.owner.defining (is_declared p name) (is_declared s name) once
      (last_declared n p.scopes s.scopes name is.0 fu.beside.scopes)) in
      let kernel' = subst (λ o. (o.kernel && given (first_type qs) (λ d. no_kernel_parameter d star)) ≡ false) (sym ow)
      kernel in
      let bp = param_leaves p w f l qs sh ∙ ap (λ z. with_parameter p name l z star) dt in
      let bs = param_leaves s w f l qs sh ∙ ap (λ z. with_parameter s name l z star) dt in (
        (
          still_parts asked (inside p forms.ParamNode w) (inside s forms.ParamNode w) forms.ParamNode (λ b p. refl) None
              None qs st so.0,
          frame_but asked s forms.ParamNode w f l qs refl (at_frame asked s w f l qs sh once' kernel'),
        ),
        subst (λ z. Further asked (behind_parameter names (node forms.ParamNode w f l parts)) n p s z
            (behind s (node forms.ParamNode w f l qs))) (sym bp)
            (subst (λ z. Further asked (behind_parameter names (node forms.ParamNode w f l parts)) n p s
            (with_parameter p name l (Some d) star) z) (sym bs) (param_further names n p s w f l parts d h is.0 dt fu)),
      )
  one_param names n p s t h is fu so = absurd h

  further_self : (names : Names) (n : ℕ) (p s p' s' : Env) → Further asked names n p s p' s' →
      Further asked names n p' s' p' s'
  further_self names n p s p' s' h = record {
    beside = h.beside;
    numbers = h.numbers;
    there = h.there;
    plain = outer_same p'.scopes;
    form = outer_same s'.scopes;
  }

  further_then : (names after : Names) (n : ℕ) (p s p' s' p'' s'' : Env) → Further asked names n p s p' s' →
      Further asked after n p' s' p'' s'' → Further asked after n p s p'' s''
  further_then names after n p s p' s' p'' s'' h g = record {
    beside = g.beside;
    numbers = g.numbers;
    there = g.there;
    plain = outer_then p.scopes p'.scopes p''.scopes h.plain g.plain;
    form = outer_then s.scopes s'.scopes s''.scopes h.form g.form;
  }

  all_params : (names : Names) (n : ℕ) (p s : Env) (b b' : Before) (front front' : Bool) (ps : Forest) →
      AreParams ps → AllDeclaredNames ps → Further asked names n p s p s →
      SoundParts asked p forms.ParamsNode b (plains_of ps) →
      AllSoundBut asked s forms.ParamsNode b' (plains_of ps) ×
      Further asked (behind_parameters names ps) n p s (behind_parts p forms.ParamsNode front (plains_of ps))
      (behind_parts s forms.ParamsNode front' (plains_of ps))
  unfolding plains_of behind_parts later
  all_params names n p s b b' front front' none h is fu so = (tt, fu)
  all_params names n p s b b' front front' (more t ts) h is fu so =
      let t' = plain_of t in
      let after = behind_parameter names t in
      let x = one_param names n p s t h.0 is.0 fu so.0 in
      let y = all_params after n (behind p t') (behind s t') (Some (last_of t')) (Some (last_of t')) false false ts h.1
      is.1 (further_self after n p s (behind p t') (behind s t') x.1) so.1 in (
        (x.0, y.0),
        further_then after (behind_parameters after ts) n p s (behind p t') (behind s t')
            (behind_parts (behind p t') forms.ParamsNode false (plains_of ts))
            (behind_parts (behind s t') forms.ParamsNode false (plains_of ts)) x.1 y.1,
      )

  params_closed : (env : Env) (w : List ℕ) (f l : ℕ) (ps : Forest) →
      behind env (node forms.ParamsNode w f l ps) ≡ closed env (behind_parts env forms.ParamsNode true ps)
  unfolding behind left restored inside
  params_closed env w f l ps = refl

  -- behind the parameters their block stands
  pub params_follow : (names : Names) (n : ℕ) (p s : Env) (w : List ℕ) (f l : ℕ) (ps : Forest) → AreParams ps →
      AllDeclaredNames ps → has_scope p.scopes ≡ true → length s.variables ≡ length p.variables →
      Beside asked names n p s → SoundTree asked p roles.Other (node forms.ParamsNode w f l (plains_of ps)) →
      SoundBut asked s roles.Other (node forms.ParamsNode w f l (plains_of ps)) ×
      Beside asked (behind_parameters names ps) n (params_env p (node forms.ParamsNode w f l (plains_of ps)))
      (params_env s (node forms.ParamsNode w f l (plains_of ps)))
  unfolding inside
  params_follow names n p s w f l ps h is th nu be so =
      let t = node forms.ParamsNode w f l (plains_of ps) in
      let ip = behind_parts p forms.ParamsNode true (plains_of ps) in
      let jp = behind_parts s forms.ParamsNode true (plains_of ps) in
      let after = behind_parameters names ps in
      let x = all_params names n p s None None true true ps h is (record {
        beside = be;
        numbers = nu;
        there = th;
        plain = outer_same p.scopes;
        form = outer_same s.scopes;
      }) so.0 in
      let y = be.plainly in
      let z = x.1.beside.plainly in
      let m = beside_marked asked after n ip jp (record (closed p ip) { in_body = true })
      (record (closed s jp) { in_body = true }) (outer_whole p.scopes ip.scopes x.1.plain)
      (outer_whole s.scopes jp.scopes x.1.form) refl refl y.owner y.declared y.flags be.unflagged refl y.in_loop
      y.in_switch z.labels
      z.arrays z.tables x.1.beside in (
        (x.0, still_but asked p s forms.ParamsNode w f l f l (plains_of ps) (plains_of ps) refl so.1.0),
        subst (λ e. Beside asked after n (record e { in_body = true }) (params_env s t))
            (sym (params_closed p w f l (plains_of ps)))
            (subst (λ e. Beside asked after n (record (closed p ip) { in_body = true }) (record e { in_body = true }))
            (sym (params_closed s w f l (plains_of ps))) m),
      )
