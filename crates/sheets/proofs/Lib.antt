mod Refused
mod KindNumbers
mod AnswerLines
