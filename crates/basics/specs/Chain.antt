-- Chains of a relation, and a chain that returns to its start.
module _ {A : Type 0} (R : A → A → Type 0) where
  pub data Chain : A → A → Type 0 where
    one : {y x : A} → R y x → Chain y x
    more : {z y x : A} → Chain z y → R y x → Chain z x

  pub record Cycle : Type 0 where
    pub item : A
    pub returns : Chain item item
