-- The board may be lent to other threads, and its hands may go there.
use denote.RattleType.{RattleType}
use denote.Param.Send.{IsSend, IsSync, sendable, part_keyless, recorded_sync, struct_sync}
use denote.Struct.Struct.{Struct}
use denote.Struct.Declared.{shape}
use Rattle.atomic_table.specs.contracts.shared.Seat.{the_row}
use Rattle.atomic_table.proofs.shared.Seat.TheSendSync as place
use Rattle.crossbeam_queue.proofs.array_queue.Slotted.TheSendSync as slotted
use Rattle.crossbeam_queue.specs.contracts.array_queue.TurnsTableRuleOptionDoingUnit.TheImpl as turns
use Rattle.dactl_model.specs.contracts.graph.NodeId as NodeId
use Rattle.dactl_queue.specs.contracts.rule.Account as Account
use Rattle.dactl_queue.specs.contracts.rule.Fair as Fair
use Rattle.dactl_queue.specs.contracts.rule.FairProtocolNodeIdAccount.TheImpl as fair
use Rattle.dactl_queue.specs.contracts.ruled.RuledBoard as boards
use Rattle.dactl_queue.specs.contracts.ruled.RuledHand as hands
use Rattle.dactl_queue.proofs.ruled.RuledHand.TheSendSync as hand
use Rattle.std.specs.contracts.option.Option as Option
use Rattle.std.proofs.alloc.Global.TheSendSync as heap
use Rattle.std.proofs.Crossing.{frees}

-- a `&` to a seat of a table shows nothing
place_sync : (S V : RattleType) → IsSend S → IsSync (the_row S V)
place_sync S V s = record { shared = λ d b o κ q. part_keyless (the_row S V) (place.the_send S V s) q d b o }

node_send : IsSend (Option.the_row NodeId.the_row)
node_send = search sendable depth 20

pub hand_send : IsSend hands.the_row
hand_send = hand.the_send

pub board_sync : IsSync boards.the_row
board_sync = recorded_sync (Struct (shape boards.the_type)) boards.the_type.D boards.the_type.to boards.the_type.to_one
    (struct_sync (shape boards.the_type) (slotted.the_field_sync _ _ _ _ (turns.ghosts NodeId.the_row Account.the_row Fair.the_row fair.ghosts turns.no_dict) _ node_send heap.the_send heap.the_sync frees, (place_sync _ _ node_send, (search sendable, tt))))
