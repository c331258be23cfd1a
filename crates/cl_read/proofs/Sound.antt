-- Each reader of types, declarations and expressions reads what the grammar says.
use Rattle.std.proofs.Common.{◌≡◌, ℕ, zero, suc, ◌+◌, ◌<◌, Bool, true, false, List, [], ◌∷◌, ◌++◌, length, refl, sym}
use Rattle.std.proofs.Common.{ap, subst, ◌∙◌, append_assoc, arith}
use Rattle.std.proofs.lemmas.List.{append-nil, length-append}
use Rattle.cl_tree.specs.declared.terminal.Terminal.{Terminal}
use Rattle.cl_tree.specs.declared.terminal.Terminal.TheVariants as terminals
use Rattle.cl_tree.specs.declared.terminal.Leaf.{Leaf}
use Rattle.cl_tree.specs.declared.tree.Form.TheVariants as forms
use Rattle.cl_tree.specs.Precedence.{joins, form_of, assigns, prefixes, qualifies}
use Rattle.cl_tree.specs.Syntax.{Syntax, Forest, none, more, joined}
use Rattle.cl_tree.specs.Nodes.{Spot, tok, word_node, pair_node, type_node, declarator_node, paren_node}
use Rattle.cl_tree.specs.Grammar as grammar
use Rattle.cl_tree.specs.Grammar.{closed, Sort, TypeName, Base, Core, Star, Declare, Declarator, Dimension, Init}
use Rattle.cl_tree.specs.Grammar.{Initializers, Elements, Block, Simple, Statement, Expr, Assign, Cond}
use Rattle.cl_tree.specs.Grammar.{Cast, Unary, Postfix, Primary, Level, Qualifier, Maybe, Many, Just, Comma, Space}
use Rattle.cl_tree.specs.Grammar.{one, list, Spells}
use Rattle.cl_read.specs.Starts.{postfixes}
use Rattle.cl_read.specs.Reading.{Got, Reader, done, begins, is, Listing, all_of, each, behind_comma, if_begun}
use Rattle.cl_read.specs.Reading.{unless, Readers, is_unary, qualifier_of, qualifiers, core_of, base_of, space_of}
use Rattle.cl_read.specs.Reading.{star_of, front_of, behind_of, type_of, dimension_of, init_of, declared}
use Rattle.cl_read.specs.Reading.{declarator_of, declare_rest, declare_of, element_of, initializers_of, call_of}
use Rattle.cl_read.specs.Reading.{primary_of, postfix_step, postfixed, paren_of, opened, sizeof_of, operand_of}
use Rattle.cl_read.specs.Reading.{unary_of, cast_of, level_step, level_of, cond_of, assign_of, expr_step, expr_of}
use Rattle.cl_read.specs.Reading.{selection_of}
use Rattle.cl_read.proofs.Tails.{spot, leaves_at, same_terminal}
use Rattle.cl_read.proofs.Good.{Took, Fine, Good, weaker, good_then, good_done, then_done, Starts, good_cond}
use Rattle.cl_read.proofs.Rules.{choice, spot_of, then_eat_in, then_eat, eat_done, ended, good_if_begun, good_unless}
use Rattle.cl_read.proofs.Rules.{good_chain, then_chain}
use Rattle.cl_read.proofs.ListRules.{Shrinks, good_all}

abbrev pub Tree_of : Sort → Syntax → List Leaf → Type 0
Tree_of s t x = Spells s (one t) x

abbrev pub Many_of : Sort → Listing → List Leaf → Type 0
Many_of s l x = Spells (Many s) (list l.own l.parts) x

abbrev pub flagged : Bool → Type 0 → Type 0 → Type 0
flagged true P Q = P
flagged false P Q = Q

-- a member of a list, which is not the last for what it is
abbrev pub Member_of : Sort → Bool × Listing → List Leaf → Type 0
Member_of s a x = flagged a.0 (Spells s (list a.1.own a.1.parts) x) ⊥

abbrev pub Trees : Forest → List Leaf → Type 0
Trees ts x = Unit {0}

-- ---- what is taken has tokens

took_less : {A : Type 0} (R : A → List Leaf → Type 0) → ((a : A) (x : List Leaf) → R a x → 0 < length x) →
    (p : Reader A) (ts rest : List Leaf) (a : A) → Took p R ts a rest → length rest < length ts
took_less R h p ts rest a t =
    let l : length ts ≡ length t.front + length rest = ap length t.split ∙ length-append t.front rest in
    let m : 0 < length t.front = h a t.front t.means in
    omega arith

pub shrinks : {A : Type 0} (R : A → List Leaf → Type 0) → ((a : A) (x : List Leaf) → R a x → 0 < length x) →
    (p : Reader A) → Good p R → (ts rest : List Leaf) (a : A) → p ts ≡ Got a rest → length rest < length ts
shrinks R h p g ts rest a e = took_less R h p ts rest a (subst (λ o. Fine p R ts o) e (g.run ts))

member_long : (s : Sort) → ((own : List Spot) (parts : Forest) (x : List Leaf) → Spells s (list own parts) x →
    0 < length x) → (b : Bool) (l : Listing) (x : List Leaf) → Member_of s (b, l) x → 0 < length x
member_long s h true l x m = h l.own l.parts x m
member_long s h false l x m = absurd m

pub members_shrink : (test : Terminal → Bool) (p : Reader (Bool × Listing)) (s : Sort) →
    ((own : List Spot) (parts : Forest) (x : List Leaf) → Spells s (list own parts) x → 0 < length x) →
    Good p (Member_of s) → Shrinks test p
members_shrink test p s h g = shrinks (Member_of s) (λ a x. member_long s h a.0 a.1 x) p g

pub good_many : (test : Terminal → Bool) (p : Reader (Bool × Listing)) (s : Sort) →
    ((own : List Spot) (parts : Forest) (x : List Leaf) → Spells s (list own parts) x → 0 < length x) →
    Good p (Member_of s) → Good (all_of test p) (Many_of s)
good_many test p s h g = good_all test p (Member_of s) (Many_of s) grammar.many_end (λ a x m l y t.
    grammar.many_more m t) (λ a x m. absurd m) (members_shrink test p s h g) g

pub good_each : (p : Reader Syntax) (s : Sort) → Good p (Tree_of s) → Good (each p) (Member_of (Just s))
good_each p s g = then_done p _ (Tree_of s) (Member_of (Just s)) g (λ t x h. grammar.just h)

pub good_behind_comma : (p : Reader Syntax) (s : Sort) → Good p (Tree_of s) →
    Good (behind_comma p) (Member_of (Comma s))
good_behind_comma p s g = then_eat terminals.Comma _ _
    (λ k. then_done p _ (Tree_of s) (λ a x. Member_of (Comma s) a (tok terminals.Comma k ∷ x)) g
    (λ t x h. grammar.comma k h))

comma_long : (s : Sort) (own : List Spot) (parts : Forest) (x : List Leaf) → Spells (Comma s) (list own parts) x →
    0 < length x
comma_long s own parts x (grammar.comma k h) = omega arith

pub good_commas : (p : Reader Syntax) (s : Sort) → Good p (Tree_of s) →
    Good (all_of (is terminals.Comma) (behind_comma p)) (Many_of (Comma s))
good_commas p s g = good_many (is terminals.Comma) (behind_comma p) (Comma s) (comma_long s) (good_behind_comma p s g)

pub commas_shrink : (p : Reader Syntax) (s : Sort) → Good p (Tree_of s) → Shrinks (is terminals.Comma) (behind_comma p)
commas_shrink p s g =
    members_shrink (is terminals.Comma) (behind_comma p) (Comma s) (comma_long s) (good_behind_comma p s g)

abbrev pub Maybe_of : Sort → Forest → List Leaf → Type 0
Maybe_of s ts x = Spells (Maybe s) (list [] ts) x

pub good_star_option : (test : Terminal → Bool) (p : Reader Syntax) (s : Sort) → Good p (Tree_of s) →
    Good (if_begun test p) (Maybe_of s)
good_star_option test p s g =
    good_if_begun test p (Tree_of s) (Maybe_of s) g grammar.maybe_none (λ t x h. grammar.maybe_some h)

pub good_option : (test : Terminal → Bool) (p : Reader Syntax) (s : Sort) → Good p (Tree_of s) →
    Good (unless test p) (Maybe_of s)
good_option test p s g =
    good_unless test p (Tree_of s) (Maybe_of s) g grammar.maybe_none (λ t x h. grammar.maybe_some h)

-- ---- types

qualifier_word : (b : Bool) → qualifies b terminals.Qualifier ≡ true
qualifier_word true = refl
qualifier_word false = refl

good_qualifier : (b : Bool) → Good (qualifier_of b) (Member_of (Qualifier b))
unfolding qualifier_of
good_qualifier b = then_eat_in (qualifies b) terminals.Qualifier (qualifier_word b) _ _
    (λ k m q. good_done _ _ (grammar.qualifier k m q))

qualifier_long : (b : Bool) (own : List Spot) (parts : Forest) (x : List Leaf) →
    Spells (Qualifier b) (list own parts) x → 0 < length x
qualifier_long b own parts x (grammar.qualifier k m q) = omega arith

pub good_qualifiers : (b : Bool) → Good (qualifiers b) (Many_of (Qualifier b))
good_qualifiers b = good_many (qualifies b) (qualifier_of b) (Qualifier b) (qualifier_long b) (good_qualifier b)

pub qualifiers_shrink : (b : Bool) → Shrinks (qualifies b) (qualifier_of b)
qualifiers_shrink b = members_shrink (qualifies b) (qualifier_of b) (Qualifier b) (qualifier_long b) (good_qualifier b)

abbrev Words_of : Sort → List Spot → List Leaf → Type 0
Words_of s a x = Spells s (list a none) x

good_core : Good core_of (Words_of Core)
unfolding core_of
good_core = choice _ _ _ _ (eat_done _ _ _ grammar.core_char) (choice _ _ _ _ (eat_done _ _ _ grammar.core_int)
    (then_eat _ _ _ (λ m. choice _ _ _ _ (eat_done _ _ _ (λ i. grammar.core_length_int m i))
    (good_done _ _ (grammar.core_length m)))))

good_base : Good base_of (Words_of Base)
unfolding base_of
good_base = choice _ _ _ _ (eat_done _ _ _ grammar.base_word) (choice _ _ _ _
    (then_eat _ _ _ (λ m. choice _ _ _ _ (then_done _ _ _ _ good_core (λ a x h. grammar.base_sign_core m h))
    (good_done _ _ (grammar.base_sign m))))
    (weaker _ _ _ (λ a x h. grammar.base_core h) good_core))

pub good_space : Good space_of (Tree_of Space)
unfolding space_of
good_space = eat_done _ _ _ grammar.space

pub good_star : Good star_of (Tree_of Star)
unfolding star_of
good_star = then_eat _ _ _ (λ o. then_done _ _ _ _ (good_qualifiers true) (λ a x h. grammar.star o h))

-- What holds of the readers of one level more, where it holds of those of the parts.

-- an else behind what was read cannot belong to an if in it
abbrev pub Ends : Reader Syntax → Type 0
Ends p =
    (ts rest : List Leaf) (t : Syntax) → p ts ≡ Got t rest → begins (is terminals.Else) rest ≡ true → closed t ≡ true

pub record AllGood (r : Readers) : Type 0 where
  pub ends : Ends r.statement
  pub space : Good r.space (Tree_of Space)
  pub star : Good r.star (Tree_of Star)
  pub type' : Good r.type' (Tree_of TypeName)
  pub declare : Good r.declare (Tree_of Declare)
  pub declarator : Good r.declarator (Tree_of Declarator)
  pub initializers : Good r.initializers (Tree_of Initializers)
  pub block : Good r.block (Tree_of Block)
  pub simple : Good r.simple (Tree_of Simple)
  pub statement : Good r.statement (Tree_of Statement)
  pub expr : Good r.expr (Tree_of Expr)
  pub assign : Good r.assign (Tree_of Assign)
  pub cond' : Good r.cond' (Tree_of Cond)
  pub level : (k : ℕ) → k < 11 → Good (r.level k) (Tree_of (Level k))
  pub cast : Good r.cast (Tree_of Cast)
  pub unary : Good r.unary (Tree_of Unary)

-- a token that joins at the level
pub joiner : (k : ℕ) → k < 10 → (j : Terminal) × (joins k j ≡ true)
joiner zero h = (terminals.Star, refl)
joiner (suc zero) h = (terminals.PlusMinus, refl)
joiner (suc (suc zero)) h = (terminals.Shift, refl)
joiner (suc (suc (suc zero))) h = (terminals.Relation, refl)
joiner (suc (suc (suc (suc zero)))) h = (terminals.Equality, refl)
joiner (suc (suc (suc (suc (suc zero))))) h = (terminals.Ampersand, refl)
joiner (suc (suc (suc (suc (suc (suc zero)))))) h = (terminals.Caret, refl)
joiner (suc (suc (suc (suc (suc (suc (suc zero))))))) h = (terminals.Bar, refl)
joiner (suc (suc (suc (suc (suc (suc (suc (suc zero)))))))) h = (terminals.AndAnd, refl)
joiner (suc (suc (suc (suc (suc (suc (suc (suc (suc zero))))))))) h = (terminals.OrOr, refl)
joiner (suc (suc (suc (suc (suc (suc (suc (suc (suc (suc k)))))))))) h = absurd (omega arith)

pub one_number : (k : ℕ) → Spells Cast (one (word_node forms.NumberNode (spot terminals.Number k)))
    (tok terminals.Number (spot terminals.Number k) ∷ [])
one_number k =
    grammar.cast_unary (grammar.unary_postfix (grammar.postfix_primary (grammar.number (spot terminals.Number k))))

pub level_of_cast : (k : ℕ) {t : Syntax} {x : List Leaf} → Spells Cast (one t) x → Spells (Level k) (one t) x
level_of_cast zero h = grammar.level_cast h
level_of_cast (suc k) h = grammar.level_next (level_of_cast k h)

pub cond_of_cast : {t : Syntax} {x : List Leaf} → Spells Cast (one t) x → Spells Cond (one t) x
cond_of_cast h = grammar.cond_level (level_of_cast 10 h)

pub assign_of_cast : {t : Syntax} {x : List Leaf} → Spells Cast (one t) x → Spells Assign (one t) x
assign_of_cast h = grammar.assign_cond (cond_of_cast h)

pub expr_of_cast : {t : Syntax} {x : List Leaf} → Spells Cast (one t) x → Spells Expr (one t) x
expr_of_cast h = grammar.expr_assign (assign_of_cast h)

-- ---- a cond that is a unary

joined_is_none : (k : ℕ) (l r : Syntax) (m : Spot) → is_unary (pair_node (form_of k) l m r) ≡ true → ⊥
joined_is_none zero l r m u = cc
joined_is_none (suc zero) l r m u = cc
joined_is_none (suc (suc zero)) l r m u = cc
joined_is_none (suc (suc (suc zero))) l r m u = cc
joined_is_none (suc (suc (suc (suc zero)))) l r m u = cc
joined_is_none (suc (suc (suc (suc (suc zero))))) l r m u = cc
joined_is_none (suc (suc (suc (suc (suc (suc zero)))))) l r m u = cc
joined_is_none (suc (suc (suc (suc (suc (suc (suc zero))))))) l r m u = cc
joined_is_none (suc (suc (suc (suc (suc (suc (suc (suc zero)))))))) l r m u = cc
joined_is_none (suc (suc (suc (suc (suc (suc (suc (suc (suc k))))))))) l r m u = cc

unary_of_level : {k : ℕ} {t : Syntax} {x : List Leaf} → is_unary t ≡ true → Spells (Level k) (one t) x →
    Spells Unary (one t) x
unary_of_level u (grammar.level_cast (grammar.cast_unary h)) = h
unary_of_level u (grammar.level_cast (grammar.cast o i c h)) = absurd cc
unary_of_level u (grammar.level_next h) = unary_of_level u h
unary_of_level u (grammar.level {k = k} {l = l} h j m q {r = r} i) = absurd (joined_is_none k l r m u)

pub unary_of_cond : (t : Syntax) (x : List Leaf) → is_unary t ≡ true → Spells Cond (one t) x → Spells Unary (one t) x
unary_of_cond t x u (grammar.cond_level h) = unary_of_level u h
unary_of_cond t x u (grammar.cond h q a c b) = absurd cc

pub elements_long : (b : Bool) (l : Listing) (x : List Leaf) →
    flagged b (Spells (Comma Assign) (list l.own l.parts) x) ((0 < length x) ×
    Spells Elements (list l.own l.parts) x) → 0 < length x
elements_long true l x h = comma_long Assign l.own l.parts x h
elements_long false l x h = h.0

abbrev pub Element_of : Bool × Listing → List Leaf → Type 0
Element_of a x = flagged a.0 (Spells (Comma Assign) (list a.1.own a.1.parts) x) ((0 < length x) ×
    Spells Elements (list a.1.own a.1.parts) x)

abbrev pub Elements_of : Listing → List Leaf → Type 0
Elements_of l x = Spells Elements (list l.own l.parts) x

more_elements : {own : List Spot} {parts : Forest} {x : List Leaf} → Spells (Comma Assign) (list own parts) x →
    {a : List Spot} {ts : Forest} {y : List Leaf} → Spells Elements (list a ts) y →
    Spells Elements (list (own ++ a) (joined parts ts)) (x ++ y)
more_elements (grammar.comma k h) t = grammar.elements_more k h t

module _ (low : Readers) (g : AllGood low) where
  good_front : (a f : List Spot) (h : Forest) (x : List Leaf) → Spells (Many (Qualifier false)) (list a h) x →
      Good (front_of low a) (λ t y. Tree_of TypeName t (x ++ y))
  unfolding front_of
  good_front a f e x h = good_then _ _ _ _ g.space (λ s u hs. good_then _ _ _ _ (good_qualifiers false)
      (λ b v hb. good_then _ _ _ _ good_base (λ d y hd. then_done _ _ _ _ (good_qualifiers false)
      (λ c z hc. grammar.type_front h hs hb hd hc))))

  good_behind : (a : List Spot) (f : Forest) (x : List Leaf) → Spells (Many (Qualifier false)) (list a f) x →
      Good (behind_of low a) (λ t y. Tree_of TypeName t (x ++ y))
  unfolding behind_of
  good_behind a f x h =
      good_then _ _ _ _ good_base (λ d y hd. good_then _ _ _ _ (good_qualifiers false) (λ b v hb. choice _ _ _ _
      (good_then _ _ _ _ g.space (λ s u hs. then_done _ _ _ _ (good_qualifiers false)
      (λ c z hc. grammar.type_behind h hd hb hs hc)))
      (good_done _ _ (subst (λ z. Tree_of TypeName (type_node (a ++ (d ++ b.own))) (x ++ (y ++ z)))
      (sym (append-nil v)) (grammar.type_plain h hd hb)))))

  pub good_type : Good (type_of low) (Tree_of TypeName)
  unfolding type_of
  good_type = good_then _ _ _ _ (good_qualifiers false) (λ a x h. choice _ _ _ _ (good_front a.own a.own a.parts x h)
      (good_behind a.own a.parts x h))

  -- ---- declarations

  good_dimension : Good (dimension_of low) (Member_of Dimension)
  unfolding dimension_of
  good_dimension = then_eat terminals.OpenBracket _ _ (λ o. good_then (unless (is terminals.CloseBracket) low.cond') _
      _ _ (good_option (is terminals.CloseBracket) low.cond' Cond g.cond') (λ ts x h.
      eat_done terminals.CloseBracket (λ c. (true, record { own = o ∷ c ∷ []; parts = ts }))
      (λ a y. Member_of Dimension a (tok terminals.OpenBracket o ∷ (x ++ y))) (λ c. grammar.dimension o h c)))

  dimension_long : (own : List Spot) (parts : Forest) (x : List Leaf) → Spells Dimension (list own parts) x →
      0 < length x
  dimension_long own parts x (grammar.dimension o h c) = omega arith

  good_dimensions : Good (all_of (is terminals.OpenBracket) (dimension_of low)) (Many_of Dimension)
  good_dimensions = good_many _ _ Dimension dimension_long good_dimension

  pub dimensions_shrink : Shrinks (is terminals.OpenBracket) (dimension_of low)
  dimensions_shrink =
      members_shrink (is terminals.OpenBracket) (dimension_of low) Dimension dimension_long good_dimension

  good_init : Good (init_of low) (Tree_of Init)
  unfolding init_of
  good_init = choice _ _ _ _ (weaker _ _ _ (λ t x h. grammar.init_list h) g.initializers)
      (weaker _ _ _ (λ t x h. grammar.init_assign h) g.assign)

  pub good_declared : (ss : Forest) (x : List Leaf) → Maybe_of Star ss x → (m : Spot) →
      Good (declared low ss m) (λ t y. Tree_of Declarator t (x ++ (tok terminals.Name m ∷ y)))
  unfolding declared
  good_declared ss x h m = good_then _ _ _ _ good_dimensions (λ l y d. choice _ _ _ _
      (then_eat _ _ _ (λ e. then_done _ _ _ _ good_init (λ i z hi. grammar.declarator_set h m d e hi)))
      (good_done _ _ (subst (λ z. Tree_of Declarator (declarator_node ss m l.own l.parts)
      (x ++ (tok terminals.Name m ∷ z))) (sym (append-nil y)) (grammar.declarator h m d))))

  pub good_declarator : Good (declarator_of low) (Tree_of Declarator)
  unfolding declarator_of
  good_declarator =
      good_then _ _ _ _ (good_star_option _ _ Star g.star) (λ ss x h. then_eat _ _ _ (λ m. good_declared ss x h m))

  pub good_declare_rest : (t : Syntax) (x : List Leaf) → Tree_of TypeName t x → (d : Syntax) (y : List Leaf) →
      Tree_of Declarator d y → Good (declare_rest low t d) (λ u z. Tree_of Declare u (x ++ (y ++ z)))
  unfolding declare_rest
  good_declare_rest t x h d y i =
      good_then _ _ _ _ (good_commas _ Declarator g.declarator) (λ l z j. eat_done _ _ _ (λ s. grammar.declare h i j s))

  pub good_declare : Good (declare_of low) (Tree_of Declare)
  unfolding declare_of
  good_declare =
      good_then _ _ _ _ g.type' (λ t x h. good_then _ _ _ _ g.declarator (λ d y i. good_declare_rest t x h d y i))

  good_element : Good (element_of low) Element_of
  unfolding element_of
  good_element = then_eat terminals.Comma _ _ (λ k.
      let one_more : (0 < 1) × Spells Elements (list (k ∷ []) none) (tok terminals.Comma k ∷ []) =
      (omega arith, grammar.elements_comma k) in
      choice _ _ _ _ (good_done (false, record { own = k ∷ []; parts = none })
      (λ a y. Element_of a (tok terminals.Comma k ∷ y)) one_more)
      (then_done low.assign (λ t. (true, record { own = k ∷ []; parts = more t none })) (Tree_of Assign)
      (λ a y. Element_of a (tok terminals.Comma k ∷ y)) g.assign (λ t x h. grammar.comma k h)))

  good_elements : Good (all_of (is terminals.Comma) (element_of low)) Elements_of
  good_elements = good_all _ _ Element_of Elements_of grammar.elements_end (λ a x h l y t. more_elements h t)
      (λ a x h. h.1) (shrinks Element_of (λ a x. elements_long a.0 a.1 x) (element_of low) good_element) good_element

  pub elements_shrink : Shrinks (is terminals.Comma) (element_of low)
  elements_shrink = shrinks Element_of (λ a x. elements_long a.0 a.1 x) (element_of low) good_element

  pub good_initializers : Good (initializers_of low) (Tree_of Initializers)
  unfolding initializers_of
  good_initializers = then_eat _ _ _
      (λ o. good_then _ _ _ _ g.assign
      (λ t x h. good_then _ _ _ _ good_elements (λ l y i. eat_done _ _ _ (λ c. grammar.initializers o h i c))))

module _ (n : ℕ) (low : Readers) (g : AllGood low) where
  good_call : (m o : Spot) → Good (call_of n low m o)
      (λ t y. Tree_of Primary t (tok terminals.Name m ∷ tok terminals.Open o ∷ y))
  unfolding call_of
  good_call m o = choice _ _ _ _
      (eat_done _ _ _ (λ c. grammar.call_none m o c))
      (good_then _ _ _ _ g.assign (λ t x h. good_then _ _ _ _ (good_commas _ Assign g.assign)
      (λ l y a. eat_done _ _ _ (λ c. grammar.call m o h a c))))

  good_primary : Good (primary_of n low) (Tree_of Primary)
  unfolding primary_of
  good_primary = choice _ _ _ _
      (then_eat _ _ _ (λ m. choice _ _ _ _ (then_eat _ _ _ (λ o. good_call m o)) (good_done _ _ (grammar.variable m))))
      (choice _ _ _ _ (eat_done _ _ _ grammar.truth) (eat_done _ _ _ grammar.number))

  postfix_each : (l : Syntax) (x : List Leaf) → Tree_of Postfix l x →
      Good (postfix_step n low l) (λ r y. Tree_of Postfix r (x ++ y))
  unfolding postfix_step selection_of
  postfix_each l x s = choice _ _ _ _
      (then_eat _ _ _ (λ o. good_then _ _ _ _ g.expr (λ e y h. eat_done _ _ _ (λ c. grammar.index s o h c))))
      (choice _ _ _ _ (then_eat _ _ _ (λ d. eat_done _ _ _ (λ m. grammar.selection s d m)))
      (eat_done _ _ _ (λ m. grammar.step s m)))

  postfix_at : (l : Syntax) (x : List Leaf) → Tree_of Postfix l x → (j : Terminal) (m : Spot) → postfixes j ≡ true →
      (k : ℕ) → (t : Syntax) × (tail : List Terminal) × Tree_of Postfix t (x ++ (tok j m ∷ leaves_at k tail))
  postfix_at l x s terminals.OpenBracket m e k = (
    _,
    terminals.Number ∷ terminals.CloseBracket ∷ [],
    grammar.index s m (expr_of_cast (one_number k)) (spot terminals.CloseBracket (suc k)),
  )
  postfix_at l x s terminals.Step m e k = (_, [], grammar.step s m)
  postfix_at l x s terminals.Point m e k = (_, terminals.Name ∷ [], grammar.selection s m (spot terminals.Name k))
  postfix_at l x s _ m e k = absurd cc

  good_postfixed : (l : Syntax) (x : List Leaf) → Tree_of Postfix l x →
      Good (postfixed n low l) (λ r y. Tree_of Postfix r (x ++ y))
  unfolding postfixed
  good_postfixed l x s = good_chain n postfixes (postfix_step n low) (Tree_of Postfix) postfix_each (λ t y h i b k.
      postfix_at t y h i.terminal (spot_of i) b k) n l x s

  good_paren : (o : Spot) → Good (paren_of n low o) (λ t y. Tree_of Unary t (tok terminals.Open o ∷ y))
  unfolding paren_of
  good_paren o = good_then _ _ _ _ g.expr (λ t x h. then_eat _ _ _ (λ c.
      weaker _ _ _ (λ r y s. subst (λ z. Tree_of Unary r (tok terminals.Open o ∷ z))
      (append_assoc x (tok terminals.Close c ∷ []) y) (grammar.unary_postfix s))
      (good_postfixed (paren_node o t c) (tok terminals.Open o ∷ (x ++ (tok terminals.Close c ∷ [])))
      (grammar.postfix_primary (grammar.paren o h c)))))

  good_opened : (o : Spot) → Good (opened n low o) (λ t y. Tree_of Cast t (tok terminals.Open o ∷ y))
  unfolding opened
  good_opened o = choice _ _ _ _
      (good_then _ _ _ _ g.type' (λ t x h.
      then_eat _ _ _ (λ c. then_done _ _ _ _ g.cast (λ e y i. grammar.cast o h c i))))
      (weaker _ _ _ (λ t y h. grammar.cast_unary h) (good_paren o))

  good_sizeof : Good (sizeof_of n low) (Tree_of Unary)
  unfolding sizeof_of
  good_sizeof = then_eat _ _ _ (λ w.
      then_eat _ _ _ (λ o. good_then _ _ _ _ g.type' (λ t x h. eat_done _ _ _ (λ c. grammar.unary_sizeof w o h c))))

  good_operand : Good (operand_of n low) (Tree_of Unary)
  unfolding operand_of
  good_operand = choice _ _ _ _ (then_eat _ _ _ (λ m. then_done _ _ _ _ g.unary (λ t x h. grammar.unary_step m h)))
      (choice _ _ _ _ (then_eat_in prefixes terminals.PlusMinus refl _ _
      (λ k m q. then_done _ _ _ _ g.cast (λ t x h. grammar.unary_prefix k m q h)))
      (choice _ _ _ _ good_sizeof (good_then _ _ _ _ good_primary
      (λ l x h. weaker _ _ _ (λ r y s. grammar.unary_postfix s)
      (good_postfixed l x (grammar.postfix_primary h))))))

  pub good_unary : Good (unary_of n low) (Tree_of Unary)
  unfolding unary_of
  good_unary = choice _ _ _ _ (then_eat _ _ _ good_paren) good_operand

  pub good_cast : Good (cast_of n low) (Tree_of Cast)
  unfolding cast_of
  good_cast = choice _ _ _ _ (then_eat _ _ _ good_opened) (weaker _ _ _ (λ t x h. grammar.cast_unary h) good_operand)

  level_each : (k : ℕ) → k < 10 → (l : Syntax) (x : List Leaf) → Tree_of (Level (suc k)) l x →
      Good (level_step n low k l) (λ r y. Tree_of (Level (suc k)) r (x ++ y))
  unfolding level_step
  level_each k d l x s =
      let w = joiner k d in
      then_eat_in (joins k) w.0 w.1 _ _ (λ j m q. then_done _ _ _ _ (g.level k (omega arith))
      (λ r u h. grammar.level s j m q h))

  level_starts : (k : ℕ) (l : Syntax) (x : List Leaf) → Tree_of (Level (suc k)) l x →
      Starts (joins k) (λ r y. Tree_of (Level (suc k)) r (x ++ y))
  level_starts k l x s i b num =
      (_, terminals.Number ∷ [], grammar.level s i.terminal (spot_of i) b (level_of_cast k (one_number num)))

  pub good_level : (k : ℕ) → k < 11 → Good (level_of n low k) (Tree_of (Level k))
  unfolding level_of
  good_level zero d = weaker _ _ _ (λ t x h. grammar.level_cast h) good_cast
  good_level (suc k) d = then_chain n _ _ _ _ (level_each k (omega arith)) (level_starts k) n
      (weaker _ _ _ (λ t x h. grammar.level_next h) (good_level k (omega arith)))

  pub good_cond_of : Good (cond_of n low) (Tree_of Cond)
  unfolding cond_of
  good_cond_of = good_then _ _ _ _ (good_level 10 (omega arith)) (λ t x s. choice _ _ _ _
      (then_eat _ _ _ (λ q. good_then _ _ _ _ g.expr
      (λ a y h. then_eat _ _ _ (λ c. then_done _ _ _ _ g.cond' (λ b z k. grammar.cond s q h c k)))))
      (ended t (Tree_of Cond) x (grammar.cond_level s)))

  pub good_assign : Good (assign_of n low) (Tree_of Assign)
  unfolding assign_of
  good_assign = good_then _ _ _ _ good_cond_of (λ l x s.
      let plain : Good (done l) (λ r y. Tree_of Assign r (x ++ y)) =
      ended l (Tree_of Assign) x (grammar.assign_cond s) in
      good_cond (is_unary l) _ _ _
      (λ u. choice _ _ _ _ (then_eat_in assigns terminals.Equals refl _ _
      (λ j m q. then_done _ _ _ _ g.assign (λ r y h. grammar.assign (unary_of_cond l x u s) j m q h))) plain)
      (λ _. plain))

  expr_each : (l : Syntax) (x : List Leaf) → Tree_of Expr l x →
      Good (expr_step n low l) (λ r y. Tree_of Expr r (x ++ y))
  unfolding expr_step
  expr_each l x s = then_eat _ _ _ (λ m. then_done _ _ _ _ g.assign (λ r y h. grammar.expr s m h))

  expr_at : (l : Syntax) (x : List Leaf) → Tree_of Expr l x → (j : Terminal) (m : Spot) → terminals.Comma ≡ j →
      (k : ℕ) → (t : Syntax) × (tail : List Terminal) × Tree_of Expr t (x ++ (tok j m ∷ leaves_at k tail))
  expr_at l x s j m e k = (
    _,
    terminals.Number ∷ [],
    subst (λ (i : Terminal).
        Tree_of Expr (pair_node forms.ExprNode l m (word_node forms.NumberNode (spot terminals.Number k)))
        (x ++ (tok i m ∷ leaves_at k (terminals.Number ∷ [])))) e
        (grammar.expr s m (assign_of_cast (one_number k))),
  )

  pub good_expr : Good (expr_of n low) (Tree_of Expr)
  unfolding expr_of
  good_expr = then_chain n _ _ _ _ expr_each (λ l x s i b k. expr_at l x s i.terminal (spot_of i)
      (sym (same_terminal i.terminal terminals.Comma b)) k) n (weaker _ _ _ (λ t x h. grammar.expr_assign h)
      good_assign)
