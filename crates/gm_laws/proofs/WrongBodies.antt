-- No history that a wrong body writes is right.
use Rattle.std.proofs.Common.{None, Option, Some, arith, false, inl, inr, refl, true, ℕ, ◌≡◌}
use Rattle.std.proofs.lemmas.Bool.{both_ways}
use Rattle.gm_base.specs.declared.values.Kind.TheVariants.{Private, Shared}
use Rattle.gm_flat.specs.RightHistory.{Right}
use Rattle.gm_flat.specs.RightLook.{ToAgain, ToFault, ToFile, ToMmio, ToUser}
use Rattle.gm_laws.proofs.Kit.{none_is}
use Rattle.gm_laws.proofs.Rows.{false_true}
use Rattle.gm_laws.specs.FlushPending.{flush_pending_orders}
use Rattle.gm_laws.specs.HeldPage.{held_page_orders}
use Rattle.gm_laws.specs.MarkedSlot.{marked_slot_orders}
use Rattle.gm_laws.specs.MixedBlock.{mixed_block_orders}
use Rattle.gm_laws.specs.MoveAndDeletion.{move_and_deletion_orders}
use Rattle.gm_laws.specs.OneRead.{one_read_orders}
use Rattle.gm_laws.specs.WrongBodies.{always_retries, answers_before_acked, asks_only_where_a_leaf_went, block_leaf_beside_a_change, bound_twice_orders, deletes_without_a_mark, edges_not_renewed, exits_by_a_marked_slot, exits_by_the_miss, frees_a_held_page, hole_twice_orders, gets_by_a_marked_slot, keeps_old_words, keeps_the_mark, leaves_the_block_leaf, looks_at_the_generation_before, never_compares, one_frame_orders, other_kind_orders, other_page_orders, overlooks_the_last_page, resets_the_range, two_brackets_orders}

pub true_false : true ≡ false → ⊥
true_false e = both_ways true e refl

other_kind : Shared ≡ Private → ⊥
other_kind e = cc

other_word : ◌≡◌ {A = ℕ} 7 0 → ⊥
other_word e = omega arith

other_route : ToMmio ≡ ToFault → ⊥
other_route e = cc

again_fault : ToAgain ≡ ToFault → ⊥
again_fault e = cc

user_again : ToUser ≡ ToAgain → ⊥
user_again e = cc

user_file : ToUser ≡ ToFile → ⊥
user_file e = cc

other_slot : ◌≡◌ {A = Option ℕ} None (Some 0) → ⊥
other_slot e = none_is 0 e

pub never_compares_is_wrong : Right other_page_orders never_compares → ⊥
never_compares_is_wrong r = true_false r.installs.0.not_stale

pub resets_the_range_is_wrong : Right two_brackets_orders resets_the_range → ⊥
resets_the_range_is_wrong r = true_false r.installs.0.not_stale

pub asks_only_where_a_leaf_went_is_wrong : Right flush_pending_orders asks_only_where_a_leaf_went → ⊥
asks_only_where_a_leaf_went_is_wrong r = r.order.0.step.1 (record { vcpu = 0; is_inside = refl; not_flushed = omega arith })

pub frees_a_held_page_is_wrong : Right held_page_orders frees_a_held_page → ⊥
frees_a_held_page_is_wrong r = r.lives.0.here.not_held 0 (omega arith) (0, refl)

pub block_leaf_beside_a_change_is_wrong : Right mixed_block_orders block_leaf_beside_a_change → ⊥
block_leaf_beside_a_change_is_wrong r = true_false r.levels.0.no_invalidation

pub edges_not_renewed_is_wrong : Right mixed_block_orders edges_not_renewed → ⊥
edges_not_renewed_is_wrong r = other_kind (r.levels.0.one_kind 5 refl)

pub leaves_the_block_leaf_is_wrong : Right mixed_block_orders leaves_the_block_leaf → ⊥
leaves_the_block_leaf_is_wrong r = r.touches.0.is_served

pub always_retries_is_wrong : Right one_read_orders always_retries → ⊥
always_retries_is_wrong r = false_true r.installs.0

pub keeps_old_words_is_wrong : Right one_frame_orders keeps_old_words → ⊥
keeps_old_words_is_wrong r = other_word r.touches.0.right_value

pub answers_before_acked_is_wrong : Right flush_pending_orders answers_before_acked → ⊥
answers_before_acked_is_wrong r = false_true r.order.0.step.1

pub exits_by_the_miss_is_wrong : Right hole_twice_orders exits_by_the_miss → ⊥
exits_by_the_miss_is_wrong r = other_route r.looks.0.right_route

pub overlooks_the_last_page_is_wrong : Right bound_twice_orders overlooks_the_last_page → ⊥
overlooks_the_last_page_is_wrong r = r.calls.1.0

pub looks_at_the_generation_before_is_wrong : Right one_read_orders looks_at_the_generation_before → ⊥
looks_at_the_generation_before_is_wrong r = other_slot r.looks.0.right_slot

pub exits_by_a_marked_slot_is_wrong : Right other_kind_orders exits_by_a_marked_slot → ⊥
exits_by_a_marked_slot_is_wrong r = again_fault r.looks.0.right_route

pub gets_by_a_marked_slot_is_wrong : Right marked_slot_orders gets_by_a_marked_slot → ⊥
gets_by_a_marked_slot_is_wrong r = r.installs.0

pub deletes_without_a_mark_is_wrong : Right marked_slot_orders deletes_without_a_mark → ⊥
deletes_without_a_mark_is_wrong r = false_true (r.order.0.whole_before refl)

pub keeps_the_mark_is_wrong : Right move_and_deletion_orders keeps_the_mark → ⊥
keeps_the_mark_is_wrong r = elim r.installs.0 [ inl again ↦ user_again again | inr shut ↦ user_file shut.right_route ]
