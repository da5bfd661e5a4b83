use Rattle.query_core.proofs.ZoneOrders.{session_in_order, session_whole}
use Rattle.query_core.proofs.laws.sessions_keep_the_order.Goals as goal

pub returns : goal.returns
returns c = record {
  ascending = λ store setting asked. asked.listed.rising;
  ordered = λ store setting moment view events some licensed.
      session_in_order setting some store moment view events licensed;
  whole = λ store setting moment view events answer some licensed.
      session_whole setting some store moment view events licensed answer;
}
