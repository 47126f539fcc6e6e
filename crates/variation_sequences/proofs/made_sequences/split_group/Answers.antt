use Rattle.variation_sequences.proofs.GroupLemmas.{first_selector, group_split, some_of}
use Rattle.variation_sequences.proofs.made_sequences.split_group.Goals as goal

pub returns-clause-groups : goal.returns-clause-groups
returns-clause-groups c =
    group_split _ _ _ _ _ c.requires (first_selector _ _ c.requires) c.count_in_front.ensures.value
    c.split_at.ensures.front c.split_at.ensures.back

pub returns-clause-some : goal.returns-clause-some
returns-clause-some c =
    some_of _ _ _ _ c.requires (first_selector _ _ c.requires) c.count_in_front.ensures.value
    c.split_at.ensures.front_len
