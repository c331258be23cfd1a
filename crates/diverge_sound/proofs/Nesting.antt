-- Calls nest less and less deep, and each part of a valid function has a type, or is a call that gives no value.
use Rattle.std.proofs.Common.{◌≡◌, ◌≢◌, ℕ, zero, suc, false, List, [], ◌∷◌, ◌++◌, Option, Some, None, slice_get}
use Rattle.std.proofs.Common.{unwrap_or, ◌⊎◌, inl, inr, refl, sym, ap, ◌∙◌, subst}
use Rattle.wg_num.specs.declared.types.IntType.{IntType}
use Rattle.wg_num.specs.declared.types.IntType.TheVariants.{Long}
use Rattle.cl_model.specs.declared.program.Root.{Root}
use Rattle.cl_model.specs.Tree.{Set, Expression, Apply, Update, Choose, Call, Expressions, none, more, single}
use Rattle.cl_model.specs.Tree.{Statement, Do, Declare, Fill, Block, If, Loop, Switch, Break, Continue, Return}
use Rattle.cl_model.specs.Tree.{Barrier, Statements, empty, also, Arms, no_arm, arm, Function, Program}
use Rattle.cl_model.specs.Lists.{Each, IsOneOf}
use Rattle.cl_model.specs.Calls.{CallSite, calls_in, calls_among, calls_in_optional, calls_of, calls_of_all}
use Rattle.cl_model.specs.Calls.{calls_of_arms, function_at, no_function}
use Rattle.cl_model.specs.Valid.{HasType, HaveTypes, HasValue, IsPlainCall, OptionalFits, ReturnFits, AllHaveType}
use Rattle.cl_model.specs.Valid.{StatementFits, AllFit, ArmsFit, CallsEnd, IsScopedList, AllExitsFit, numbers_below}
use Rattle.cl_model.specs.Valid.{IsValid}
use Rattle.cl_model.specs.Varying.{parts_of, parts_among, parts_of_optional, expressions_of, expressions_of_list}
use Rattle.cl_model.specs.Varying.{expressions_of_arms}

pub in_either : {A : Type 0} (xs ys : List A) (a : A) → IsOneOf (xs ++ ys) a → IsOneOf xs a ⊎ IsOneOf ys a
in_either [] ys a h = inr h
in_either (x ∷ xs) ys a (inl e) = inl (inl e)
in_either (x ∷ xs) ys a (inr h) = elim (in_either xs ys a h) [ inl i ↦ inl (inr i) | inr i ↦ inr i ]

pub each_one : {A : Type 0} (P : A → Type 0) (xs : List A) (a : A) → Each P xs → IsOneOf xs a → P a
each_one P [] a h m = absurd m
each_one P (x ∷ xs) a h (inl e) = subst P e h.0
each_one P (x ∷ xs) a h (inr m) = each_one P xs a h.1 m

pub each_map : {A : Type 0} (P Q : A → Type 0) (xs : List A) → ((a : A) → P a → Q a) → Each P xs → Each Q xs
each_map P Q [] f h = tt
each_map P Q (x ∷ xs) f h = (f x h.0, each_map P Q xs f h.1)

-- a call that is a part of code is one of its calls
module _ (site g : ℕ) (roots : List (Option Root)) (es : Expressions) where
  abbrev Here : List CallSite → Type 0
  Here calls = IsOneOf calls (record { site = site; function = g })

  to_left : (xs ys : List CallSite) → Here xs → Here (xs ++ ys)
  to_left [] ys h = absurd h
  to_left (x ∷ xs) ys (inl e) = inl e
  to_left (x ∷ xs) ys (inr h) = inr (to_left xs ys h)

  to_right : (xs ys : List CallSite) → Here ys → Here (xs ++ ys)
  to_right [] ys h = h
  to_right (x ∷ xs) ys h = inr (to_right xs ys h)

  mutual
    called_in : (e : Expression) → IsOneOf (parts_of e) (Call site g roots es) → Here (calls_in e)
    called_in (Apply action operands) (inl q) = absurd (cc q)
    called_in (Apply action operands) (inr h) = called_among operands h
    called_in (Update s element root op of back old index value) (inl q) = absurd (cc q)
    called_in (Update s element root op of back old index value) (inr h) =
        elim (in_either (parts_of index) (parts_of value) _ h) [
          | inl i ↦
              to_left (calls_in index) (calls_in value) (called_in index i)
          | inr i ↦
              to_right (calls_in index) (calls_in value) (called_in value i)
        ]
    called_in (Choose s t a b) (inl q) = absurd (cc q)
    called_in (Choose s t a b) (inr h) =
        elim (in_either (parts_of t) (parts_of a ++ parts_of b) _ h) [
          | inl i ↦ to_left (calls_in t) (calls_in a ++ calls_in b) (called_in t i)
          | inr i ↦ to_right (calls_in t) (calls_in a ++ calls_in b) (elim (in_either (parts_of a) (parts_of b) _ i) [
            | inl j ↦ to_left (calls_in a) (calls_in b) (called_in a j)
            | inr j ↦
                to_right (calls_in a) (calls_in b) (called_in b j)
          ])
        ]
    called_in (Call s k rs arguments) (inl q) =
        let same_site : s ≡ site = cc q in
        let same_function : k ≡ g = cc q in
        let one : ◌≡◌ {A = CallSite} (record { site = s; function = k }) (record { site = site; function = g }) =
        ap (λ (n : ℕ). record { site = n; function = k }) same_site ∙
        ap (λ (n : ℕ). record { site = site; function = n }) same_function in
        to_right (calls_among arguments) (record { site = s; function = k } ∷ []) (inl one)
    called_in (Call s k rs arguments) (inr h) =
        to_left (calls_among arguments) (record { site = s; function = k } ∷ []) (called_among arguments h)

    called_among : (xs : Expressions) → IsOneOf (parts_among xs) (Call site g roots es) → Here (calls_among xs)
    called_among none h = absurd h
    called_among (more e rest) h =
        elim (in_either (parts_of e) (parts_among rest) _ h) [
          | inl i ↦
              to_left (calls_in e) (calls_among rest) (called_in e i)
          | inr i ↦
              to_right (calls_in e) (calls_among rest) (called_among rest i)
        ]

  called_optional : (e : Option Expression) → IsOneOf (parts_of_optional e) (Call site g roots es) →
      Here (calls_in_optional e)
  called_optional None h = absurd h
  called_optional (Some e) h = called_in e h

  mutual
    called_of : (s : Statement) → IsOneOf (expressions_of s) (Call site g roots es) → Here (calls_of s)
    called_of (Do e) h = called_in e h
    called_of (Declare x None) h = absurd h
    called_of (Declare x (Some e)) (inl q) = absurd (cc q)
    called_of (Declare x (Some e)) (inr h) = called_in e h
    called_of (Fill s array values) h = called_among values h
    called_of (Block list) h = called_of_all list h
    called_of (If s t a b) h =
        elim (in_either (parts_of t) (expressions_of_list a ++ expressions_of_list b) _ h) [
          | inl i ↦ to_left (calls_in t) (calls_of_all a ++ calls_of_all b) (called_in t i)
          | inr i ↦ to_right (calls_in t) (calls_of_all a ++ calls_of_all b)
              (elim (in_either (expressions_of_list a) (expressions_of_list b) _ i) [
                | inl j ↦
                    to_left (calls_of_all a) (calls_of_all b) (called_of_all a j)
                | inr j ↦
                    to_right (calls_of_all a) (calls_of_all b) (called_of_all b j)
              ])
        ]
    called_of (Loop s first t st b) h =
        elim (in_either (parts_of_optional t) (parts_of_optional st ++ expressions_of b) _ h) [
          | inl i ↦ to_left (calls_in_optional t) (calls_in_optional st ++ calls_of b) (called_optional t i)
          | inr i ↦ to_right (calls_in_optional t) (calls_in_optional st ++ calls_of b)
              (elim (in_either (parts_of_optional st) (expressions_of b) _ i) [
                | inl j ↦
                    to_left (calls_in_optional st) (calls_of b) (called_optional st j)
                | inr j ↦
                    to_right (calls_in_optional st) (calls_of b) (called_of b j)
              ])
        ]
    called_of (Switch s value arms) h = elim (in_either (parts_of value) (expressions_of_arms arms) _ h) [
      | inl i ↦
          to_left (calls_in value) (calls_of_arms arms) (called_in value i)
      | inr i ↦
          to_right (calls_in value) (calls_of_arms arms) (called_of_arms arms i)
    ]
    called_of (Break s) h = absurd h
    called_of (Continue s) h = absurd h
    called_of (Return s value) h = called_optional value h
    called_of (Barrier s) h = absurd h

    pub called_of_all : (list : Statements) → IsOneOf (expressions_of_list list) (Call site g roots es) →
        Here (calls_of_all list)
    called_of_all empty h = absurd h
    called_of_all (also s rest) h = elim (in_either (expressions_of s) (expressions_of_list rest) _ h) [
      | inl i ↦
          to_left (calls_of s) (calls_of_all rest) (called_of s i)
      | inr i ↦
          to_right (calls_of s) (calls_of_all rest) (called_of_all rest i)
    ]

    called_of_arms : (arms : Arms) → IsOneOf (expressions_of_arms arms) (Call site g roots es) →
        Here (calls_of_arms arms)
    called_of_arms no_arm h = absurd h
    called_of_arms (arm labels other body rest) h =
        elim (in_either (expressions_of_list body) (expressions_of_arms rest) _ h) [
          | inl i ↦
              to_left (calls_of_all body) (calls_of_arms rest) (called_of_all body i)
          | inr i ↦
              to_right (calls_of_all body) (calls_of_arms rest) (called_of_arms rest i)
        ]

-- nesting

pub callee_ends : (program : Program) (d f site g : ℕ) (roots : List (Option Root)) (es : Expressions) →
    CallsEnd program (suc d) f → IsOneOf (expressions_of_list (function_at program f).body) (Call site g roots es) →
    CallsEnd program d g
callee_ends program d f site g roots es h m =
    each_one (λ (c : CallSite). CallsEnd program d c.function) (calls_of_all (function_at program f).body)
    (record { site = site; function = g }) h (called_of_all site g roots es (function_at program f).body m)

pub ends_deeper : (program : Program) (d f : ℕ) → CallsEnd program d f → CallsEnd program (suc d) f
ends_deeper program zero f h = absurd h
ends_deeper program (suc d) f h =
    each_map (λ (c : CallSite). CallsEnd program d c.function) (λ (c : CallSite). CallsEnd program (suc d) c.function)
    (calls_of_all (function_at program f).body) (λ c. ends_deeper program d c.function) h

each_or : {A : Type 0} (P : A → Type 0) → ((a : A) → P a ⊎ (P a → ⊥)) → (xs : List A) → Each P xs ⊎ (Each P xs → ⊥)
each_or P dec [] = inl tt
each_or P dec (x ∷ xs) = elim (dec x) [
  | inr n ↦ inr (λ h. n h.0)
  | inl y ↦ elim (each_or P dec xs) [ inl ys ↦ inl (y, ys) | inr n ↦ inr (λ h. n h.1) ]
]

ends_or : (program : Program) (d f : ℕ) → CallsEnd program d f ⊎ (CallsEnd program d f → ⊥)
ends_or program zero f = inr (λ h. h)
ends_or program (suc d) f = each_or (λ (c : CallSite). CallsEnd program d c.function)
    (λ c. ends_or program d c.function) (calls_of_all (function_at program f).body)

-- the least depth at which the calls of a function end
pub least_depth : (program : Program) (d f : ℕ) → CallsEnd program d f → (m : ℕ) × CallsEnd program (suc m) f ×
    (CallsEnd program m f → ⊥)
least_depth program zero f h = absurd h
least_depth program (suc d) f h = elim (ends_or program d f) [ inl y ↦ least_depth program d f y | inr n ↦ (d, h, n) ]

-- types of parts

abbrev pub Typed : Program → Function → Expression → Type 0
Typed program f e = HasValue program f e ⊎ IsPlainCall program f e

module _ (program : Program) (f : Function) where
  mutual
    typed_part : (e : Expression) (t : IntType) → HasType program f e t → (d : Expression) → IsOneOf (parts_of e) d →
        Typed program f d
    typed_part (Apply action es) t h d (inl q) = subst (Typed program f) q (inl (t, h))
    typed_part (Apply action es) t h d (inr m) = typed_among es h.0 h.1 d m
    typed_part (Update site element root op of back old i v) t h d (inl q) = subst (Typed program f) q (inl (t, h))
    typed_part (Update site element root op of back old i v) t h d (inr m) =
        elim (in_either (parts_of i) (parts_of v) d m) [
          | inl k ↦ typed_part i Long h.0 d k
          | inr k ↦
              typed_part v h.1.0 h.1.1 d k
        ]
    typed_part (Choose site c a b) t h d (inl q) = subst (Typed program f) q (inl (t, h))
    typed_part (Choose site c a b) t h d (inr m) =
        elim (in_either (parts_of c) (parts_of a ++ parts_of b) d m) [
          | inl k ↦ typed_part c h.0.0 h.0.1 d k
          | inr k ↦
              elim (in_either (parts_of a) (parts_of b) d k) [
                | inl j ↦ typed_part a t h.1 d j
                | inr j ↦
                    typed_part b t h.2 d j
              ]
        ]
    typed_part (Call site g roots es) t h d (inl q) = subst (Typed program f) q (inl (t, h))
    typed_part (Call site g roots es) t h d (inr m) = typed_among es h.1.0 h.1.1 d m

    typed_among : (es : Expressions) (ts : List IntType) → HaveTypes program f es ts → (d : Expression) →
        IsOneOf (parts_among es) d → Typed program f d
    typed_among none ts h d m = absurd m
    typed_among (more e rest) [] h d m = absurd h
    typed_among (more e rest) (t ∷ ts) h d m =
        elim (in_either (parts_of e) (parts_among rest) d m) [
          | inl k ↦ typed_part e t h.0 d k
          | inr k ↦
              typed_among rest ts h.1 d k
        ]

  typed_plain : (e : Expression) → IsPlainCall program f e → (d : Expression) → IsOneOf (parts_of e) d →
      Typed program f d
  typed_plain (Call site g roots es) h d (inl q) = subst (Typed program f) q (inr h)
  typed_plain (Call site g roots es) h d (inr m) = typed_among es h.1.0 h.1.1 d m
  typed_plain (Apply action es) h d m = absurd h
  typed_plain (Update site element root op of back old i v) h d m = absurd h
  typed_plain (Choose site c a b) h d m = absurd h

  typed_optional : (e : Option Expression) → OptionalFits program f e → (d : Expression) →
      IsOneOf (parts_of_optional e) d → Typed program f d
  typed_optional None h d m = absurd m
  typed_optional (Some e) h d m = typed_part e h.0 h.1 d m

  typed_all : (es : Expressions) (t : IntType) → AllHaveType program f es t → (d : Expression) →
      IsOneOf (parts_among es) d → Typed program f d
  typed_all none t h d m = absurd m
  typed_all (more e rest) t h d m =
      elim (in_either (parts_of e) (parts_among rest) d m) [
        | inl k ↦ typed_part e t h.0 d k
        | inr k ↦
            typed_all rest t h.1 d k
      ]

  typed_return : (r : Option IntType) (e : Option Expression) → ReturnFits program f r e → (d : Expression) →
      IsOneOf (parts_of_optional e) d → Typed program f d
  typed_return None None h d m = absurd m
  typed_return (Some t) (Some e) h d m = typed_part e t h d m
  typed_return None (Some e) h d m = absurd h
  typed_return (Some t) None h d m = absurd h

  -- a part of code, but for the assignment that stands for a declaration
  abbrev pub NoSet : Expression → Type 0
  NoSet d = (x : ℕ) (e : Expression) → d ≢ Apply (Set x) (single e)

  mutual
    typed_of : (s : Statement) → StatementFits program f s → (d : Expression) → NoSet d →
        IsOneOf (expressions_of s) d → Typed program f d
    typed_of (Do e) (inl h) d ns m = typed_part e h.0 h.1 d m
    typed_of (Do e) (inr h) d ns m = typed_plain e h d m
    typed_of (Declare x None) h d ns m = absurd m
    typed_of (Declare x (Some e)) h d ns (inl q) = absurd (ns x e (sym q))
    typed_of (Declare x (Some e)) h d ns (inr m) = typed_part e h.0 h.2 d m
    typed_of (Fill site array es) h d ns m = typed_all es h.0.element h.3 d m
    typed_of (Block list) h d ns m = typed_of_all list h d ns m
    typed_of (If site t a b) h d ns m =
        elim (in_either (parts_of t) (expressions_of_list a ++ expressions_of_list b) d m) [
          | inl k ↦
              typed_part t h.0.0 h.0.1 d k
          | inr k ↦
              elim (in_either (expressions_of_list a) (expressions_of_list b) d k) [
                | inl j ↦
                    typed_of_all a h.1 d ns j
                | inr j ↦ typed_of_all b h.2 d ns j
              ]
        ]
    typed_of (Loop site first t st b) h d ns m =
        elim (in_either (parts_of_optional t) (parts_of_optional st ++ expressions_of b) d m) [
          | inl k ↦
              typed_optional t h.0 d k
          | inr k ↦
              elim (in_either (parts_of_optional st) (expressions_of b) d k) [
                | inl j ↦
                    typed_optional st h.1 d j
                | inr j ↦ typed_of b h.2 d ns j
              ]
        ]
    typed_of (Switch site v arms) h d ns m = elim (in_either (parts_of v) (expressions_of_arms arms) d m) [
      | inl k ↦
          typed_part v h.0.0 h.0.1 d k
      | inr k ↦ typed_of_arms arms h.3 d ns k
    ]
    typed_of (Break site) h d ns m = absurd m
    typed_of (Continue site) h d ns m = absurd m
    typed_of (Return site value) h d ns m = typed_return f.result value h d m
    typed_of (Barrier site) h d ns m = absurd m

    pub typed_of_all : (list : Statements) → AllFit program f list → (d : Expression) → NoSet d →
        IsOneOf (expressions_of_list list) d → Typed program f d
    typed_of_all empty h d ns m = absurd m
    typed_of_all (also s rest) h d ns m = elim (in_either (expressions_of s) (expressions_of_list rest) d m) [
      | inl k ↦
          typed_of s h.0 d ns k
      | inr k ↦ typed_of_all rest h.1 d ns k
    ]

    typed_of_arms : (arms : Arms) → ArmsFit program f arms → (d : Expression) → NoSet d →
        IsOneOf (expressions_of_arms arms) d → Typed program f d
    typed_of_arms no_arm h d ns m = absurd m
    typed_of_arms (arm labels other body rest) h d ns m =
        elim (in_either (expressions_of_list body) (expressions_of_arms rest) d m) [
          | inl k ↦
              typed_of_all body h.0 d ns k
          | inr k ↦ typed_of_arms rest h.1 d ns k
        ]

-- what holds of each function, of those that are not there too

module _ (program : Program) (valid : IsValid program) where
  by_function : (P : Function → Type 0) → P no_function →
      ((f : Function) (n : ℕ) → slice_get program.functions n ≡ Some f → P f) → (g : ℕ) → P (function_at program g)
  by_function P none' all g = go (slice_get program.functions g) refl
    where
      go : (o : Option Function) → slice_get program.functions g ≡ o → P (unwrap_or o no_function)
      go None e = none'
      go (Some f) e = all f g e

  pub scoped_body : (g : ℕ) → IsScopedList (numbers_below (function_at program g).parameters)
      (function_at program g).body
  scoped_body =
      by_function (λ f. IsScopedList (numbers_below f.parameters) f.body) tt (λ f n e. (valid.functions n f e).scopes)

  pub exits_body : (g : ℕ) → AllExitsFit false false (function_at program g).body
  exits_body = by_function (λ f. AllExitsFit false false f.body) tt (λ f n e. (valid.functions n f e).exits)

  pub typed_body : (g : ℕ) → AllFit program (function_at program g) (function_at program g).body
  typed_body = by_function (λ f. AllFit program f f.body) tt (λ f n e. (valid.functions n f e).types)
