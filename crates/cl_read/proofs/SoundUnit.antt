-- The reader of a unit reads what the grammar says.
use Rattle.std.proofs.Common.{ℕ, suc, ◌<◌, List, [], ◌∷◌, ◌++◌, length}
use Rattle.cl_tree.specs.declared.terminal.Terminal.TheVariants as terminals
use Rattle.cl_tree.specs.declared.terminal.Leaf.{Leaf}
use Rattle.cl_tree.specs.declared.tree.Form.TheVariants as forms
use Rattle.cl_tree.specs.Syntax.{Syntax, Forest, none, more}
use Rattle.cl_tree.specs.Nodes.{Spot, tok, word_node, alone_node}
use Rattle.cl_tree.specs.Grammar as grammar
use Rattle.cl_tree.specs.Grammar.{Source, Item, Head, Attribute, Result, Params, Param, TypeName, Star}
use Rattle.cl_tree.specs.Grammar.{Many, Just, Comma, list, Spells}
use Rattle.cl_read.specs.Starts.{starts_head}
use Rattle.cl_read.specs.Reading.{is, Listing, empty, all_of, each, behind_comma, Readers, readers, attribute_of}
use Rattle.cl_read.specs.Reading.{head_of, param_of, params_of, callable, named, result_of, typed, headed, item_of}
use Rattle.cl_read.specs.Reading.{unit_of}
use Rattle.cl_read.proofs.Good.{Good, weaker, good_then, good_done, then_done}
use Rattle.cl_read.proofs.Rules.{choice, then_eat, eat_done}
use Rattle.cl_read.proofs.ListRules.{Shrinks}
use Rattle.cl_read.proofs.First.{any, long, head_first, item_first}
use Rattle.cl_read.proofs.Sound.{Tree_of, Many_of, good_many, members_shrink, good_each, good_commas, commas_shrink}
use Rattle.cl_read.proofs.Sound.{good_star_option, AllGood, good_declared, good_declare_rest}
use Rattle.cl_read.proofs.SoundStatements.{all_good}

head_long : (own : List Spot) (parts : Forest) (x : List Leaf) → Spells (Just Head) (list own parts) x → 0 < length x
head_long own parts x (grammar.just h) = long _ x (head_first h [])

item_long : (own : List Spot) (parts : Forest) (x : List Leaf) → Spells (Just Item) (list own parts) x → 0 < length x
item_long own parts x (grammar.just h) = long _ x (item_first h [])

abbrev Params_of : Listing → List Leaf → Type 0
Params_of l x = Spells Params (list l.own l.parts) x

module _ (one' two three : Readers) (g : AllGood one') (h : AllGood two) (k : AllGood three) where
  good_attribute : Good (attribute_of one' two three) (Tree_of Attribute)
  unfolding attribute_of
  good_attribute = then_eat _ _ _
      (λ w. then_eat _ _ _ (λ o. then_eat _ _ _
      (λ p. then_eat _ _ _ (λ n. then_eat _ _ _
      (λ q. good_then _ _ _ _ g.cond'
      (λ a x ha. then_eat _ _ _ (λ j.
      good_then _ _ _ _ g.cond' (λ b y hb. then_eat _ _ _ (λ i. good_then _ _ _ _ g.cond' (λ c z hc.
      then_eat _ _ _ (λ e. then_eat _ _ _
      (λ f. eat_done _ _ _ (λ s. grammar.attribute w o p n q ha j hb i hc e f s)))))))))))))

  good_head : Good (head_of one' two three) (Tree_of Head)
  unfolding head_of
  good_head = choice _ _ _ _ (eat_done _ _ _ grammar.head_word)
      (then_done _ _ _ _ good_attribute (λ t x i. grammar.head_attribute i))

  pub heads_shrink : Shrinks starts_head (each (head_of one' two three))
  heads_shrink = members_shrink starts_head (each (head_of one' two three)) (Just Head) head_long
      (good_each (head_of one' two three) Head good_head)

  good_param : Good (param_of one' two three) (Tree_of Param)
  unfolding param_of
  good_param = good_then _ _ _ _ g.type' (λ t x i. good_then _ _ _ _ (good_star_option _ _ Star g.star)
      (λ ss y j. eat_done _ _ _ (λ m. grammar.param i j m)))

  pub params_shrink : Shrinks (is terminals.Comma) (behind_comma (param_of one' two three))
  params_shrink = commas_shrink (param_of one' two three) Param good_param

  good_params : Good (params_of one' two three) Params_of
  unfolding params_of
  good_params = choice _ _ _ _ (good_done empty Params_of grammar.params_none)
      (choice _ _ _ _ (eat_done terminals.Void (λ m. record { own = m ∷ []; parts = none }) Params_of
      grammar.params_void)
      (good_then _ _ _ _ good_param (λ t x i. then_done _ (λ l. record { own = l.own; parts = more t l.parts }) _
      (λ l y. Params_of l (x ++ y)) (good_commas (param_of one' two three) Param good_param)
      (λ l y j. grammar.params i j))))

  good_callable : (heads : Forest) (a : List Spot) (x : List Leaf) → Spells (Many (Just Head)) (list a heads) x →
      (r : Syntax) (y : List Leaf) → Tree_of Result r y → (m o : Spot) →
      Good (callable one' two three heads r m o)
      (λ t z. Tree_of Item t (x ++ (y ++ (tok terminals.Name m ∷ tok terminals.Open o ∷ z))))
  unfolding callable
  good_callable heads a x i r y j m o =
      good_then _ _ _ _ good_params (λ ps z p.
      then_eat _ _ _ (λ c. choice _ _ _ _ (eat_done _ _ _ (λ s. grammar.prototype i j m o p c s))
      (then_done _ _ _ _ k.block (λ b w f. grammar.function i j m o p c f))))

  good_named : (heads : Forest) (a : List Spot) (x : List Leaf) → Spells (Many (Just Head)) (list a heads) x →
      (r : Syntax) (y : List Leaf) → Tree_of Result r y →
      Good (named one' two three heads r) (λ t z. Tree_of Item t (x ++ (y ++ z)))
  unfolding named
  good_named heads a x i r y j = then_eat _ _ _ (λ m. then_eat _ _ _ (λ o. good_callable heads a x i r y j m o))

  good_result : Good (result_of one' two three) (Tree_of Result)
  unfolding result_of
  good_result =
      choice _ _ _ _ (eat_done _ _ _ grammar.result_void) (then_done _ _ _ _ h.type' (λ t x i. grammar.result i))

  good_typed : (t : Syntax) (x : List Leaf) → Tree_of TypeName t x →
      Good (typed one' two three t) (λ u y. Tree_of Item u (x ++ y))
  unfolding typed
  good_typed t x i = choice _ _ _ _
      (good_then _ _ _ _ k.declarator (λ d y j. weaker _ _ _ (λ u z l. grammar.item_declare l)
      (good_declare_rest three k t x i d y j)))
      (then_eat _ _ _ (λ m. choice _ _ _ _
      (then_eat _ _ _ (λ o. good_callable none [] [] grammar.many_end (alone_node forms.ResultNode t) x
      (grammar.result i) m o))
      (good_then _ _ _ _ (good_declared two h none [] grammar.maybe_none m)
      (λ d y j. weaker _ _ _ (λ u z l. grammar.item_declare l)
      (good_declare_rest three k t x i d (tok terminals.Name m ∷ y) j)))))

  good_headed : Good (headed one' two three) (Tree_of Item)
  unfolding headed
  good_headed = good_then _ _ _ _ (good_many starts_head (each (head_of one' two three)) (Just Head) head_long
      (good_each (head_of one' two three) Head good_head))
      (λ hs x i. good_then _ _ _ _ good_result (λ r y j. good_named hs.parts hs.own x i r y j))

  good_item : Good (item_of one' two three) (Tree_of Item)
  unfolding item_of
  good_item = choice _ _ _ _ good_headed (choice _ _ _ _
      (then_eat _ _ _ (λ m. good_named none [] [] grammar.many_end (word_node forms.ResultNode m)
      (tok terminals.Void m ∷ []) (grammar.result_void m)))
      (good_then _ _ _ _ h.type' (λ t x i. good_typed t x i)))

  pub items_shrink : Shrinks any (each (item_of one' two three))
  items_shrink = members_shrink any (each (item_of one' two three)) (Just Item) item_long
      (good_each (item_of one' two three) Item good_item)

  pub good_items : Good (all_of any (each (item_of one' two three))) (Many_of (Just Item))
  good_items = good_many any (each (item_of one' two three)) (Just Item) item_long
      (good_each (item_of one' two three) Item good_item)

pub good_unit : (n : ℕ) → Good (unit_of n) (Tree_of Source)
unfolding unit_of
good_unit n = then_done _ _ _ _ (good_items (readers (suc n)) (readers (suc (suc n))) (readers (suc (suc (suc n))))
    (all_good (suc n)) (all_good (suc (suc n))) (all_good (suc (suc (suc n))))) (λ l x h. grammar.unit h)
