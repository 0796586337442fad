use Rattle.std.proofs.Common.{◌≡◌, List, [], ◌∷◌, ◌++◌, map, sym, ap, ◌∙◌}
use Rattle.std.proofs.lemmas.List.{map-append}
use Rattle.std.proofs.lemmas.List.Elements.{All-push}
use Rattle.ca_base.specs.declared.ids.EndpointNo.{EndpointNo}
use Rattle.ca_base.specs.declared.bytes.Bytes.{Bytes}
use Rattle.device_io.specs.declared.endpoints.MemEndpoint.{MemEndpoint}
use Rattle.device_io.specs.DeviceLog.{DeviceLog}
use Rattle.device_io.specs.MemEndpoints.{log_of, logs_of, IsSound}
use Rattle.device_io.specs.Memory.{new_log}
use Rattle.device_io.proofs.endpoints.new_endpoints.Goals as goal

abbrev new_log_of : EndpointNo × Bytes → DeviceLog
new_log_of p = new_log p.0.0 p.1.list

one_more : (ms : List MemEndpoint) (m : MemEndpoint) (pairs : List (EndpointNo × Bytes)) (pair : EndpointNo × Bytes)
    → logs_of ms ≡ map new_log_of pairs → log_of m ≡ new_log_of pair
    → logs_of (ms ++ m ∷ []) ≡ map new_log_of (pairs ++ pair ∷ [])
one_more ms m pairs pair so_far is =
    map-append log_of ms (m ∷ []) ∙ ap (λ (logs : List DeviceLog). logs ++ log_of m ∷ []) so_far
    ∙ ap (λ (log : DeviceLog). map new_log_of pairs ++ log ∷ []) is ∙ sym (map-append new_log_of pairs (pair ∷ []))

pub loop-number-preserved : goal.loop-number-preserved
loop-number-preserved c =
    let loop = c.loop-number in
    let made = c.in_ok-endpoint in
    let sounds = made.ensures.sound in
    let pair : EndpointNo × Bytes = (c.in-Some.number, c.in-Some.bytes) in
    record {
      logs = rw c.in_ok-push.ensures.items
          (one_more _ made.endpoint loop.yielded pair loop.invariant.logs made.ensures.log);
      sound = rw c.in_ok-push.ensures.items
          (All-push (IsSound c.args.capacity) loop.endpoints.items made.endpoint loop.invariant.sound sounds);
    }
